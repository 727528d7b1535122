-- A list that is rewritten from its front on.
use Rattle.std.proofs.Common.{◌≡◌, ℕ, zero, suc, ◌+◌, ◌<◌, ◌≤◌, List, [], ◌∷◌, map, length, get_or, set, refl, sym, ap, subst, ◌∙◌, add-one, arith}
use Rattle.std.specs.List.{AllByRecursion}

-- the first so many elements are rewritten
abbrev pub up_to : {A : Type 0} → (A → A) → ℕ → List A → List A
up_to f zero xs = xs
up_to f (suc n) [] = []
up_to f (suc n) (x ∷ xs) = f x ∷ up_to f n xs

pub up_to-length : {A : Type 0} (f : A → A) (n : ℕ) (xs : List A) → length (up_to f n xs) ≡ length xs
up_to-length f zero xs = refl
up_to-length f (suc n) [] = refl
up_to-length f (suc n) (x ∷ xs) = ap suc (up_to-length f n xs)

pub up_to-all : {A : Type 0} (f : A → A) (xs : List A) → up_to f (length xs) xs ≡ map f xs
up_to-all f [] = refl
up_to-all f (x ∷ xs) = ap (λ ys. f x ∷ ys) (up_to-all f xs)

pub up_to-at : {A : Type 0} (f : A → A) (n : ℕ) (xs : List A) (d : A) → get_or (up_to f n xs) n d ≡ get_or xs n d
up_to-at f zero xs d = refl
up_to-at f (suc n) [] d = refl
up_to-at f (suc n) (x ∷ xs) d = up_to-at f n xs d

up_to-step : {A : Type 0} (f : A → A) (n : ℕ) (xs : List A) (d : A) → n < length xs → set (up_to f n xs) n (f (get_or (up_to f n xs) n d)) ≡ up_to f (suc n) xs
up_to-step f n [] d lt = absurd (omega arith)
up_to-step f zero (x ∷ xs) d lt = refl
up_to-step f (suc n) (x ∷ xs) d lt = ap (λ ys. f x ∷ ys) (up_to-step f n xs d (omega arith))

pub up_to-next : {A : Type 0} (f : A → A) (n : ℕ) (xs ys : List A) (d : A) → ys ≡ up_to f n xs → n < length xs → set ys n (f (get_or ys n d)) ≡ up_to f (n + 1) xs
up_to-next f n xs ys d e lt =
    let step : set (up_to f n xs) n (f (get_or (up_to f n xs) n d)) ≡ up_to f (suc n) xs = up_to-step f n xs d lt in
    rw (add-one, e) step

pub up_to-past : {A : Type 0} (f : A → A) (n : ℕ) (xs : List A) → length xs ≤ n → up_to f n xs ≡ map f xs
up_to-past f zero [] le = refl
up_to-past f zero (x ∷ xs) le = absurd (omega arith)
up_to-past f (suc n) [] le = refl
up_to-past f (suc n) (x ∷ xs) le = ap (λ ys. f x ∷ ys) (up_to-past f n xs (omega arith))

pub All-at : {A : Type 0} (P : A → Type 0) (xs : List A) (n : ℕ) (d : A) → AllByRecursion P xs → n < length xs → P (get_or xs n d)
All-at P [] n d all lt = absurd (omega arith)
All-at P (x ∷ xs) zero d all lt = all.0
All-at P (x ∷ xs) (suc n) d all lt = All-at P xs n d all.1 (omega arith)

-- the next element is as it was
pub up_to-holds : {A : Type 0} (P : A → Type 0) (f : A → A) (n : ℕ) (xs ys : List A) (d : A) → ys ≡ up_to f n xs → n < length xs → AllByRecursion P xs → P (get_or ys n d)
up_to-holds P f n xs ys d e lt all = subst P (sym (ap (λ zs. get_or zs n d) e ∙ up_to-at f n xs d)) (All-at P xs n d all lt)

mapped-set : {A B : Type 0} (h : A → B) (xs : List A) (n : ℕ) (v : A) → map h (set xs n v) ≡ set (map h xs) n (h v)
mapped-set h [] n v = refl
mapped-set h (x ∷ xs) zero v = refl
mapped-set h (x ∷ xs) (suc n) v = ap (λ ys. h x ∷ ys) (mapped-set h xs n v)

mapped-at : {A B : Type 0} (h : A → B) (xs : List A) (n : ℕ) (d : A) → get_or (map h xs) n (h d) ≡ h (get_or xs n d)
mapped-at h [] n d = refl
mapped-at h (x ∷ xs) zero d = refl
mapped-at h (x ∷ xs) (suc n) d = mapped-at h xs n d

mapped-all : {A B : Type 0} (h : A → B) (P : B → Type 0) (xs : List A) → AllByRecursion (λ x. P (h x)) xs → AllByRecursion P (map h xs)
mapped-all h P [] all = tt
mapped-all h P (x ∷ xs) all = (all.0, mapped-all h P xs all.1)

pub mapped-length : {A B : Type 0} (h : A → B) (xs : List A) → length (map h xs) ≡ length xs
mapped-length h [] = refl
mapped-length h (x ∷ xs) = ap suc (mapped-length h xs)

-- of lists that lie in the elements
module _ {A B : Type 0} (h : A → List B) (f : B → B) (n : ℕ) (xs ys : List A) (d : A) (e : map h ys ≡ up_to (map f) n (map h xs)) where
  pub within-holds : (P : B → Type 0) → n < length xs → AllByRecursion (λ x. AllByRecursion P (h x)) xs → AllByRecursion P (h (get_or ys n d))
  within-holds P lt all =
      let long : n < length (map h xs) = rw (mapped-length h xs) lt in
      subst (AllByRecursion P) (mapped-at h ys n d) (up_to-holds (AllByRecursion P) (map f) n (map h xs) (map h ys) (h d) e long (mapped-all h (AllByRecursion P) xs all))

  pub within-next : (v : A) → n < length xs → h v ≡ map f (h (get_or ys n d)) → map h (set ys n v) ≡ up_to (map f) (n + 1) (map h xs)
  within-next v lt same =
      let long : n < length (map h xs) = rw (mapped-length h xs) lt in
      mapped-set h ys n v ∙ ap (set (map h ys) n) (same ∙ ap (map f) (sym (mapped-at h ys n d))) ∙ up_to-next (map f) n (map h xs) (map h ys) (h d) e long

pub within-past : {A B : Type 0} (h : A → List B) (f : B → B) (n : ℕ) (xs ys : List A) → map h ys ≡ up_to (map f) n (map h xs) → length xs ≤ n → map h ys ≡ map (λ x. map f (h x)) xs
within-past {A} {B} h f n xs ys e le =
    let long : length (map h xs) ≤ n = rw (mapped-length h xs) le in
    e ∙ up_to-past (map f) n (map h xs) long ∙ maps xs
  where
    maps : (zs : List A) → map (map f) (map h zs) ≡ map (λ x. map f (h x)) zs
    maps [] = refl
    maps (z ∷ zs) = ap (λ ws. map f (h z) ∷ ws) (maps zs)
