-- Lemmas on joined fields.
use Rattle.std.proofs.Common.{◌≡◌, ℕ, ◌+◌, ◌<◌, List, [], ◌∷◌, ◌++◌, Bor, map, take, get_or, length, ap, sym, ◌∙◌, append_assoc}
use Rattle.std.specs.List.{flat_map, join_with_byte}
use Rattle.std.proofs.lemmas.List.{append-nil, take_more, flat_map_more}
use Rattle.std.proofs.lemmas.Grind.{flat_map-append}
use Rattle.go_report.specs.Text.Lines.{line_text}

-- the first field, and each other one behind a tab
pub joined : (f : Bor (List ℕ)) (fs : List (Bor (List ℕ))) → join_with_byte 9 (map (λ field. field.now) (f ∷ fs)) ≡ f.now ++ flat_map (λ field. 9 ∷ field.now) fs
joined f [] = sym (append-nil f.now)
joined f (g ∷ fs) = ap (λ t. f.now ++ (9 ∷ t)) (joined g fs)

-- fields added to a text one by one
pub joined_to : (text out : List ℕ) (f : Bor (List ℕ)) (fs fields : List (Bor (List ℕ))) → fields ≡ f ∷ fs → out ≡ (text ++ f.now) ++ flat_map (λ field. 9 ∷ field.now) fs → out ≡ text ++ join_with_byte 9 (map (λ field. field.now) fields)
joined_to text out f fs fields e h = rw e (rw joined (h ∙ append_assoc text f.now (flat_map (λ field. 9 ∷ field.now) fs)))

-- one more piece, in a loop that appends a piece for each element
pub one_more : {X : Type 0} (f : X → List ℕ) (xs : List X) (i : ℕ) (d : X) (start out next : List ℕ) → i < length xs → out ≡ start ++ flat_map f (take i xs) → next ≡ out ++ f (get_or xs i d) → next ≡ start ++ flat_map f (take (i + 1) xs)
one_more f xs i d start out next lt before now =
    rw (take_more xs i d lt) (now ∙ (ap (λ t. t ++ f (get_or xs i d)) before ∙ flat_map_more f start (take i xs) (get_or xs i d)))

-- fields that stand behind others
pub join_behind : (f : List ℕ) (fs more : List (List ℕ)) → join_with_byte 9 ((f ∷ fs) ++ more) ≡ join_with_byte 9 (f ∷ fs) ++ flat_map (λ field. 9 ∷ field) more
join_behind f [] [] = sym (append-nil f)
join_behind f [] (g ∷ more) = ap (λ t. f ++ (9 ∷ t)) (join_behind g [] more)
join_behind f (g ∷ fs) more = ap (λ t. f ++ (9 ∷ t)) (join_behind g fs more) ∙ sym (append_assoc f (9 ∷ join_with_byte 9 (g ∷ fs)) (flat_map (λ field. 9 ∷ field) more))

-- a line that is written in three parts
pub line_in_parts : (f : List ℕ) (fs more others : List (List ℕ)) (start a b c out : List ℕ)
    → a ≡ start ++ join_with_byte 9 (f ∷ fs) → b ≡ a ++ flat_map (λ field. 9 ∷ field) more → c ≡ b ++ flat_map (λ field. 9 ∷ field) others → out ≡ c ++ 10 ∷ []
    → out ≡ start ++ line_text ((f ∷ fs) ++ (more ++ others))
line_in_parts f fs more others start a b c out e1 e2 e3 e4 =
    let tabs : List (List ℕ) → List ℕ = flat_map (λ field. 9 ∷ field) in
    let both : tabs (more ++ others) ≡ tabs more ++ tabs others = flat_map-append (λ field. 9 ∷ field) more others in
    let whole : join_with_byte 9 ((f ∷ fs) ++ (more ++ others)) ≡ join_with_byte 9 (f ∷ fs) ++ (tabs more ++ tabs others) = join_behind f fs (more ++ others) ∙ ap (λ t. join_with_byte 9 (f ∷ fs) ++ t) both in
    let third : c ≡ start ++ (join_with_byte 9 (f ∷ fs) ++ (tabs more ++ tabs others)) = e3 ∙ (ap (λ t. t ++ tabs others) (e2 ∙ ap (λ t. t ++ tabs more) e1) ∙ simp append_assoc) in
    e4 ∙ (ap (λ t. t ++ 10 ∷ []) (third ∙ ap (λ t. start ++ t) (sym whole)) ∙ append_assoc start (join_with_byte 9 ((f ∷ fs) ++ (more ++ others))) (10 ∷ []))
