-- Broken rules with their places written out.
use Rattle.std.proofs.Common.{◌≡◌, ℕ, suc, ◌+◌, ◌==◌, Bool, true, false, cond, List, [], ◌∷◌, ◌++◌, map, take, drop, refl, sym, ap, ◌∙◌, arith}
use Rattle.std.specs.List.{prefix_len}
use Rattle.std.proofs.lemmas.List.{append_assoc, drop-drop, map-append, take-append-drop}
use Rattle.go_base.specs.declared.rule.Broken.{Broken}
use Rattle.go_module.specs.declared.places.Placed.{Placed}
use Rattle.go_module.specs.Modules.Texts.{SourceText}
use Rattle.go_module.specs.Places.{placed_among, placed_in}
use Rattle.go_load.specs.Packages.Placing.{is_in, text_at}

same_number : (a b : ℕ) → (a == b) ≡ true → a ≡ b
same_number a b e = grind (arith, e)

-- one at the front, by whether it is in the file
run_step : (texts : List SourceText) (file : ℕ) (b : Broken) (bs : List Broken) (here : Bool) → is_in file b ≡ here → map (placed_among texts) (take (prefix_len (is_in file) bs) bs) ≡ map (placed_in (text_at texts file)) (take (prefix_len (is_in file) bs) bs) → map (placed_among texts) (take (cond here (1 + prefix_len (is_in file) bs) 0) (b ∷ bs)) ≡ map (placed_in (text_at texts file)) (take (cond here (1 + prefix_len (is_in file) bs) 0) (b ∷ bs))
run_step texts file b bs true e rest =
    let n = prefix_len (is_in file) bs in
    let one : 1 + n ≡ suc n = omega arith in
    ap (λ (m : ℕ). map (placed_among texts) (take m (b ∷ bs))) one
    ∙ ap (λ (m : ℕ). placed_in (text_at texts m) b ∷ map (placed_among texts) (take n bs)) (same_number b.pos.file file e)
    ∙ ap (λ (list : List Placed). placed_in (text_at texts file) b ∷ list) rest
    ∙ sym (ap (λ (m : ℕ). map (placed_in (text_at texts file)) (take m (b ∷ bs))) one)
run_step texts file b bs false e rest = refl

-- the rules of one file at the front of a list are placed in its text
run_same : (texts : List SourceText) (file : ℕ) (bs : List Broken) → map (placed_among texts) (take (prefix_len (is_in file) bs) bs) ≡ map (placed_in (text_at texts file)) (take (prefix_len (is_in file) bs) bs)
run_same texts file [] = refl
run_same texts file (b ∷ bs) = run_step texts file b bs (is_in file b) refl (run_same texts file bs)

-- one run more
pub run_more : (texts : List SourceText) (list : List Broken) (start file n : ℕ) (rest run : List Broken) (old new whole : List Placed) → rest ≡ drop start list → n ≡ prefix_len (is_in file) rest → run ≡ take n rest → new ≡ old ++ map (placed_in (text_at texts file)) run → old ++ map (placed_among texts) (drop start list) ≡ whole → new ++ map (placed_among texts) (drop (start + n) list) ≡ whole
run_more texts list start file n rest run old new whole rest_is is run_is now so_far =
    let placed : map (placed_in (text_at texts file)) run ≡ map (placed_among texts) (take n rest) =
    ap (λ (xs : List Broken). map (placed_in (text_at texts file)) xs) (run_is ∙ ap (λ (m : ℕ). take m rest) is)
    ∙ sym (run_same texts file rest)
    ∙ ap (λ (m : ℕ). map (placed_among texts) (take m rest)) (sym is) in
    let end : drop (start + n) list ≡ drop n rest = sym (drop-drop n start list) ∙ ap (λ (xs : List Broken). drop n xs) (sym rest_is) in
    let parts : map (placed_among texts) (take n rest) ++ map (placed_among texts) (drop n rest) ≡ map (placed_among texts) rest =
    sym (map-append (placed_among texts) (take n rest) (drop n rest)) ∙ ap (map (placed_among texts)) (take-append-drop n rest) in
    ap (λ (front : List Placed). front ++ map (placed_among texts) (drop (start + n) list)) (now ∙ ap (λ (more : List Placed). old ++ more) placed)
    ∙ append_assoc old (map (placed_among texts) (take n rest)) (map (placed_among texts) (drop (start + n) list))
    ∙ ap (λ (xs : List Broken). old ++ (map (placed_among texts) (take n rest) ++ map (placed_among texts) xs)) end
    ∙ ap (λ (more : List Placed). old ++ more) (parts ∙ ap (map (placed_among texts)) rest_is)
    ∙ so_far
