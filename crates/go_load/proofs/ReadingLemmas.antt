-- What is read of a module, from what the calls say.
use Rattle.std.proofs.Common.{◌≡◌, ◌≢◌, ⊎_elim, ℕ, ◌+◌, ◌<◌, Bool, true, false, List, [], ◌∷◌, ◌++◌, Option, None, Some, Result, Ok, Err, Bor, length, map, get_or, take, refl, sym, ap, ◌∙◌, subst, unwrap_or, IfOk}
use Rattle.std.specs.Global.{Global}
use Rattle.std.specs.Option.{option_copied}
use Rattle.std.specs.Prelude.{IsErrOf, Vec}
use Rattle.std.specs.List.{Contains}
use Rattle.std.specs.List.Sorted.{IsStrictlySortedBy}
use Rattle.std.proofs.lemmas.List.{append_assoc, append-nil, map_push, take_more}
use Rattle.std.proofs.lemmas.List.Elements.{All-push}
use Rattle.go_base.specs.declared.rule.Broken.{Broken as BrokenRule}
use Rattle.go_base.specs.declared.tree.MemFile.{MemFile}
use Rattle.go_base.specs.Place.{line_of, column_of}
use Rattle.go_module.specs.declared.places.Placed.{Placed}
use Rattle.go_module.specs.Broken.{broken_at}
use Rattle.go_mod.specs.Folders.{Folder, AreGoFiles, IsBelowSome, no_folder, texts_at}
use Rattle.go_module.specs.Modules.Texts.{SourceText}
use Rattle.go_module.specs.Order.{IsListOf}
use Rattle.go_load.specs.Loading.{AreBelow, ModuleFileBreaks, module_text}
use Rattle.go_module.specs.Places.{placed_in}
use Rattle.go_mod.specs.ModuleRules.{missing_module_file, module_file_path}
use Rattle.go_load.proofs.FolderLemmas.{broken_is, files_are, folder_is, folder_read, module_bytes, path_read, texts_are}
use Rattle.go_module.proofs.MemberLemmas.{cons_cases, contains_head, contains_none, contains_tail}
use Rattle.go_load.specs.Texts.Calls.{IsListed, IsNoRule}
use Rattle.go_mod.specs.ModuleFile.{IsModuleFile}
use Rattle.go_mod.specs.declared.module_file.ModuleFile.{ModuleFile}
use Rattle.go_mod.specs.declared.module_file.ModuleFile.TheVariants.{Broken as Bad}
use Rattle.go_load.specs.Texts.ModuleTexts.{IsFaultOf, IsModuleFault, IsModulePath, IsModuleRead, IsTold, TellsRead, module_text_with, rules_of}
use Rattle.go_load.specs.Texts.Reading.{ReadsBroken, ReadsModule}
use Rattle.go_load.specs.Texts.ReadTexts.{Adds, AddsStubs, AreAllRead, AreBothRead, AreGoFilesOf, AreSomeStubFiles, IsTextRead}
use Rattle.go_load.specs.declared.load_fault.LoadFault.{LoadFault}
use Rattle.go_load.specs.declared.load_fault.LoadFault.TheVariants.{Broken, ReadFault, NoMemory}

-- go.mod

filled : (found list : List BrokenRule) → IsListOf found list → found ≢ [] → list ≢ []
filled [] list is some none = absurd (some refl)
filled (b ∷ bs) list is some none =
    absurd (contains_none b (subst (λ (l : List BrokenRule). Contains l b) none ((is.same b).1 (contains_head b bs b refl))))

mapped : (f : BrokenRule → Placed) (list : List BrokenRule) → list ≢ [] → map f list ≢ []
mapped f [] some none = absurd (some refl)
mapped f (b ∷ bs) some none = absurd (cc none)

-- the whole list is told
pub told_whole : (read : Option (List ℕ)) (bytes : List ℕ) (list : List BrokenRule) (fault : LoadFault) → bytes ≡ unwrap_or read [] → rules_of read ≢ [] → IsListOf (rules_of read) list → IsTold bytes list fault → IsFaultOf read fault
told_whole read bytes list (Broken placed) is some l told = record {
  some = λ none. mapped (placed_in (module_text_with bytes)) list (filled (rules_of read) list l some) (sym told ∙ none);
  broken = list;
  is_list = l;
  placed = told ∙ ap (λ (b : List ℕ). map (placed_in (module_text_with b)) list) is;
}
told_whole read bytes list ReadFault is some l told = absurd told
told_whole read bytes list NoMemory is some l told = absurd told

one_rule : broken_at 0 0 missing_module_file ∷ [] ≢ []
one_rule e = absurd (cc e)

-- where go.mod is missing
pub told_missing : {E : Type 0} (bytes : List ℕ) (found list shown : List BrokenRule) (r : Result LoadFault E) → bytes ≡ [] → found ≡ broken_at 0 0 missing_module_file ∷ [] → IsListOf found list → shown ≡ list → IfOk r (λ fault. IsTold bytes shown fault) → IfOk r (λ fault. IsFaultOf None fault)
told_missing bytes found list shown (Ok fault) none is l same told =
    told_whole None bytes list fault none one_rule (subst (λ (f : List BrokenRule). IsListOf f list) is l) (subst (λ (s : List BrokenRule). IsTold bytes s fault) same told)
told_missing bytes found list shown (Err e) none is l same told = tt

-- where it breaks a rule
pub told_bad : (bytes slice : List ℕ) (shown : List BrokenRule) (file : ModuleFile) (list : Vec BrokenRule Global) (fault : LoadFault) → slice ≡ bytes → file ≡ Bad list → IsModuleFile slice file → shown ≡ list.items → IsTold bytes shown fault → IsFaultOf (Some bytes) fault
told_bad bytes slice shown file list fault same is m listed told =
    let of_slice = subst (λ (f : ModuleFile). IsModuleFile slice f) is m in
    let bad = subst (λ (b : List ℕ). IsModuleFile b (Bad list)) same of_slice in
    told_whole (Some bytes) bytes list.items fault refl bad.0 bad.1 (subst (λ (s : List BrokenRule). IsTold bytes s fault) listed told)

-- where no rule is told
pub no_rule_fault : (told : Option (List MemFile)) (root : List ℕ) (names : List (List ℕ)) (fault : LoadFault) → IsNoRule fault → IsModuleFault told root names fault
no_rule_fault told root names (Broken list) free = absurd free
no_rule_fault told root names ReadFault free = tt
no_rule_fault told root names NoMemory free = tt

-- the texts

-- a result that went well is no fault
pub ok_no_fault : {A : Type 0} (x : A) → IsErrOf {T = A} {E = LoadFault} (Ok x) ReadFault → ⊥
ok_no_fault x e = absurd (cc e)

-- one more text
pub adds_more : (told : Option (List MemFile)) (root : List ℕ) (stub : Bool) (paths : List (List ℕ)) (i : ℕ) (path : List ℕ) (text : SourceText) (old now new : List SourceText) → i < length paths → path ≡ get_or paths i path → Adds told root stub (take i paths) old now → text.path ≡ path → IsTextRead told root stub text → new ≡ now ++ text ∷ [] → Adds told root stub (take (i + 1) paths) old new
adds_more told root stub paths i path text old now new lt at a path_is read is = record {
  texts = a.texts ++ text ∷ [];
  read = record {
    paths_are =
        map_push (λ (t : SourceText). t.path) a.texts text
        ∙ ap (λ (front : List (List ℕ)). front ++ text.path ∷ []) a.read.paths_are
        ∙ ap (λ (p : List ℕ). take i paths ++ p ∷ []) (path_is ∙ at)
        ∙ sym (take_more paths i path lt);
    are_read = All-push (IsTextRead told root stub) a.texts text a.read.are_read read;
  };
  are = is ∙ ap (λ (front : List SourceText). front ++ text ∷ []) a.are ∙ append_assoc old a.texts (text ∷ []);
}

-- the Go files below the root of stubs
pub stub_files : (told : Option (List MemFile)) (stubs : Option (Bor (List ℕ))) (root : Bor (List ℕ)) (names paths : List (List ℕ)) → stubs ≡ Some root → IsListed told root.now names → AreGoFilesOf names paths → AreSomeStubFiles told (option_copied stubs) paths
stub_files told stubs root names paths is listed files = rw is (record { names = names; listed = listed; are_files = files })

-- the texts of both roots are all
pub all_read : (told later : Option (List MemFile)) (root : List ℕ) (stubs : Option (List ℕ)) (names own own_seen stub stub_seen : List (List ℕ)) (texts : List SourceText) → later ≡ told → own_seen ≡ own → stub_seen ≡ stub → AreGoFilesOf names own → AreSomeStubFiles told stubs stub → AreBothRead later root stubs own_seen stub_seen texts → AreAllRead told root stubs names texts
all_read told later root stubs names own own_seen stub stub_seen texts same own_is stub_is are_own are_stubs both =
    let by_told = subst (λ (t : Option (List MemFile)). AreBothRead t root stubs own_seen stub_seen texts) same both in
    let by_own = subst (λ (o : List (List ℕ)). AreBothRead told root stubs o stub_seen texts) own_is by_told in
    record {
      own_paths = own;
      are_own = are_own;
      stub_paths = stub;
      are_stubs = are_stubs;
      read = subst (λ (o : List (List ℕ)). AreBothRead told root stubs own o texts) stub_is by_own;
    }

-- both folders

-- the folder of the stubs, its Go files, and the texts of both
record StubPart (told : Option (List MemFile)) (stubs : Option (List ℕ)) (own texts : List SourceText) : Type 0 where
  folder : Folder
  below : IsBelowSome told stubs folder
  paths : List (List ℕ)
  files : AreGoFiles folder paths
  is : texts ≡ own ++ texts_at true folder paths

no_files : AreGoFiles no_folder []
unfolding IsStrictlySortedBy
no_files = record { ascending = tt; same = λ path. ((λ h. absurd (contains_none path h)), (λ h. absurd (contains_none path h.0))) }

stub_part : (told : Option (List MemFile)) (stubs : Option (List ℕ)) (paths : List (List ℕ)) (own texts : List SourceText) → AreSomeStubFiles told stubs paths → AddsStubs told stubs paths own texts → StubPart told stubs own texts
stub_part told None paths own texts files added =
    record { folder = no_folder; below = refl; paths = []; files = no_files; is = added ∙ sym (append-nil own) }
stub_part told (Some root) paths own texts files added = record {
  folder = folder_read told root files.names None added.texts;
  below = folder_is told root files.names None added.texts;
  paths = paths;
  files = files_are told root files.names None added.texts paths files.listed files.are_files;
  is = added.are ∙ ap (λ (more : List SourceText). own ++ more) (texts_are told root files.names None true paths added.texts files.are_files added.read);
}

-- all that was read
pub reads_module : (told : Option (List MemFile)) (root : List ℕ) (stubs : Option (List ℕ)) (names : List (List ℕ)) (path : List ℕ) (texts : List SourceText) → IsListed told root names → IsModulePath told root names path → AreAllRead told root stubs names texts → ReadsModule told root stubs path texts
reads_module told root stubs names path texts listed m all =
    let own = folder_read told root names m.read all.read.own in
    let good = path_read told root names m.read all.read.own path listed m.is_read m.path_is in
    let s = stub_part told stubs all.stub_paths all.read.own texts all.are_stubs all.read.both in
    record {
      own = own;
      stubs = s.folder;
      below = record { own_is = folder_is told root names m.read all.read.own; stubs_are = s.below };
      is_read = record {
        good = good.0;
        path_is = good.1;
        are_texts = record {
          own_paths = all.own_paths;
          are_own = files_are told root names m.read all.read.own all.own_paths listed all.are_own;
          stub_paths = s.paths;
          are_stubs = s.files;
          texts_are = s.is ∙ ap (λ (front : List SourceText). front ++ texts_at true s.folder s.paths) (texts_are told root names m.read false all.own_paths all.read.own all.are_own all.read.own_are);
        };
      };
    }

-- a list that is told

-- a place at the start of go.mod is the same whatever bytes it has
abbrev place_at : List ℕ → BrokenRule → ℕ → Placed
place_at bytes b offset = record { at = record { stub = false; file = module_file_path; line = line_of bytes offset; col = column_of bytes offset }; rule = b.rule }

at_start : (bytes other : List ℕ) (b : BrokenRule) → b.pos.offset ≡ 0 → placed_in (module_text_with bytes) b ≡ placed_in (module_text_with other) b
at_start bytes other b is =
    let first : place_at bytes b b.pos.offset ≡ place_at bytes b 0 = ap (place_at bytes b) is in
    let last : place_at other b 0 ≡ place_at other b b.pos.offset = ap (place_at other b) (sym is) in
    first ∙ last

all_at_start : (bytes other : List ℕ) (list : List BrokenRule) → ((b : BrokenRule) → Contains list b → b.pos.offset ≡ 0) → map (placed_in (module_text_with bytes)) list ≡ map (placed_in (module_text_with other)) list
all_at_start bytes other [] zero = refl
all_at_start bytes other (b ∷ bs) zero =
    ap (λ (x : Placed). x ∷ map (placed_in (module_text_with bytes)) bs) (at_start bytes other b (zero b (contains_head b bs b refl)))
    ∙ ap (λ (xs : List Placed). placed_in (module_text_with other) b ∷ xs) (all_at_start bytes other bs (λ x h. zero x (contains_tail b bs x h)))

only_start : (list : List BrokenRule) → IsListOf (rules_of None) list → (b : BrokenRule) → Contains list b → b.pos.offset ≡ 0
only_start list is b h = ⊎_elim
    (λ (same : broken_at 0 0 missing_module_file ≡ b). ap (λ (x : BrokenRule). x.pos.offset) (sym same))
    (λ (none : Contains [] b). absurd (contains_none b none))
    (cons_cases (broken_at 0 0 missing_module_file) [] b ((is.same b).0 h))

places_are : (told : Option (List MemFile)) (root : List ℕ) (names : List (List ℕ)) (read : Option (List ℕ)) (list : List BrokenRule) → IsModuleRead told root names read → IsListOf (rules_of read) list → map (placed_in (module_text_with (unwrap_or read []))) list ≡ map (placed_in (module_text (folder_read told root names read []))) list
places_are told root names None list is l =
    all_at_start [] ((folder_read told root names None []).bytes module_file_path) list (only_start list l)
places_are told root names (Some bytes) list is l =
    ap (λ (b : List ℕ). map (placed_in (module_text_with b)) list) (sym (module_bytes told root names bytes [] is.1))

tells_breaks : (told : Option (List MemFile)) (root : List ℕ) (names : List (List ℕ)) (list : List Placed) → IsListed told root names → (t : TellsRead told root names list) → ModuleFileBreaks (folder_read told root names t.read []) list
tells_breaks told root names list listed t = record {
  broken = t.tells.broken;
  is_list = subst (λ (rules : List BrokenRule). IsListOf rules t.tells.broken) (sym (broken_is told root names t.read [] listed t.is_read)) t.tells.is_list;
  placed = t.tells.placed ∙ places_are told root names t.read t.tells.broken t.is_read t.tells.is_list;
}

some_stubs : (told : Option (List MemFile)) (stubs : Option (List ℕ)) → (folder : Folder) × IsBelowSome told stubs folder
some_stubs told None = (no_folder, refl)
some_stubs told (Some root) = (folder_read told root [] None [], folder_is told root [] None [])

below_both : (told : Option (List MemFile)) (root : List ℕ) (stubs : Option (List ℕ)) (names : List (List ℕ)) (read : Option (List ℕ)) → AreBelow told root stubs (folder_read told root names read []) (some_stubs told stubs).0
below_both told root stubs names read = record { own_is = folder_is told root names read []; stubs_are = (some_stubs told stubs).1 }

-- no list is told
pub reads_nothing : (told : Option (List MemFile)) (root : List ℕ) (stubs : Option (List ℕ)) (fault : LoadFault) → IsNoRule fault → ReadsBroken told root stubs fault
reads_nothing told root stubs (Broken list) free = absurd free
reads_nothing told root stubs ReadFault free = record { own = folder_read told root [] None []; stubs = (some_stubs told stubs).0; below = below_both told root stubs [] None; broken = tt }
reads_nothing told root stubs NoMemory free = record { own = folder_read told root [] None []; stubs = (some_stubs told stubs).0; below = below_both told root stubs [] None; broken = tt }

-- what go.mod breaks
pub reads_broken : (told : Option (List MemFile)) (root : List ℕ) (stubs : Option (List ℕ)) (names : List (List ℕ)) (fault : LoadFault) → IsListed told root names → IsModuleFault told root names fault → ReadsBroken told root stubs fault
reads_broken told root stubs names (Broken list) listed t = record {
  own = folder_read told root names t.read [];
  stubs = (some_stubs told stubs).0;
  below = below_both told root stubs names t.read;
  broken = (t.tells.some, tells_breaks told root names list.items listed t);
}
reads_broken told root stubs names ReadFault listed t = reads_nothing told root stubs ReadFault tt
reads_broken told root stubs names NoMemory listed t = reads_nothing told root stubs NoMemory tt
