-- What imports name, one more at a time.
use Rattle.std.proofs.Common.{◌≡◌, ℕ, ◌+◌, ◌<◌, Bool, List, [], ◌∷◌, ◌++◌, length, get_or, take, sym, ap, ◌∙◌, append_assoc}
use Rattle.std.proofs.lemmas.Grind.{flat_map-append}
use Rattle.std.proofs.lemmas.List.{take_more, append-nil}
use Rattle.std.proofs.lemmas.List.Elements.{filter_map-append}
use Rattle.go_module.specs.Modules.Heads.{FileHead, ImportSpec}
use Rattle.go_module.specs.Modules.Packages.{named, all_named, imports_at, imports_in, imports_of}

module _ (paths : List (List ℕ)) (stubs : List Bool) (from_stub : Bool) where
  pub all_named-append : (xs ys : List ImportSpec) → all_named paths stubs from_stub (xs ++ ys) ≡ all_named paths stubs from_stub xs ++ all_named paths stubs from_stub ys
  all_named-append xs ys = filter_map-append (λ spec. named paths stubs from_stub spec.path) xs ys

  -- one more import of a file
  pub named_more : (imports : List ImportSpec) (i : ℕ) (spec : ImportSpec) (start old new : List ℕ) → i < length imports → spec ≡ get_or imports i spec → old ≡ start ++ all_named paths stubs from_stub (take i imports) → new ≡ old ++ all_named paths stubs from_stub (spec ∷ []) → new ≡ start ++ all_named paths stubs from_stub (take (i + 1) imports)
  named_more imports i spec start old new lt is so_far now =
      now
      ∙ ap (λ xs. xs ++ all_named paths stubs from_stub (spec ∷ [])) so_far
      ∙ append_assoc start (all_named paths stubs from_stub (take i imports)) (all_named paths stubs from_stub (spec ∷ []))
      ∙ ap (λ xs. start ++ xs) (
      sym (all_named-append (take i imports) (spec ∷ []))
      ∙ ap (λ (s : ImportSpec). all_named paths stubs from_stub (take i imports ++ s ∷ [])) is
      ∙ ap (all_named paths stubs from_stub) (sym (take_more imports i spec lt)))

  -- one more file of a package
  pub file_more : (heads : List FileHead) (files : List ℕ) (i file : ℕ) (old new : List ℕ) → i < length files → file ≡ get_or files i file → old ≡ imports_of paths stubs heads from_stub (take i files) → new ≡ old ++ all_named paths stubs from_stub (imports_at heads file) → new ≡ imports_of paths stubs heads from_stub (take (i + 1) files)
  file_more heads files i file old new lt is so_far now =
      now
      ∙ ap (λ xs. xs ++ all_named paths stubs from_stub (imports_at heads file)) so_far
      ∙ sym (all_named-append (imports_in heads (take i files)) (imports_at heads file))
      ∙ ap (λ xs. all_named paths stubs from_stub (imports_in heads (take i files) ++ xs)) (sym (append-nil (imports_at heads file)))
      ∙ ap (all_named paths stubs from_stub) (
      sym (flat_map-append (imports_at heads) (take i files) (file ∷ []))
      ∙ ap (λ f. imports_in heads (take i files ++ f ∷ [])) is
      ∙ ap (imports_in heads) (sym (take_more files i file lt)))
