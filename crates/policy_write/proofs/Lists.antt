-- Items of lists. Assumes nothing.
use mathlib.Core.Path.{◌≡◌, refl, ap}
use mathlib.Core.List.{List, [], ◌∷◌, ◌++◌, map}
use mathlib.Core.Logic.{◌⊎◌, inl, inr}
use Rattle.laws.proofs.Bools.{either}

-- an item of a list
unfoldable pub In : {A : Type 0} → A → List A → Type 0
In x [] = ⊥
In x (y ∷ ys) = (x ≡ y) ⊎ In x ys

pub in_map : {A B : Type 0} (f : A → B) (xs : List A) (x : A) → In x xs → In (f x) (map f xs)
unfolding In
in_map f [] x m = absurd m
in_map f (y ∷ xs) x m = either m (λ e. inl (ap f e)) (λ k. inr (in_map f xs x k))

pub of_map : {A B : Type 0} (f : A → B) (xs : List A) (y : B) → In y (map f xs) → (x : A) × In x xs × (y ≡ f x)
unfolding In
of_map f [] y m = absurd m
of_map f (x ∷ xs) y m = either m (λ e. (x, inl refl, e)) (λ k. let r = of_map f xs y k in (r.0, inr r.1, r.2))

pub of_append : {A : Type 0} (xs ys : List A) (x : A) → In x (xs ++ ys) → In x xs ⊎ In x ys
unfolding In
of_append [] ys x m = inr m
of_append (y ∷ xs) ys x m = either m (λ e. inl (inl e)) (λ k. either (of_append xs ys x k) (λ a. inl (inr a)) (λ b. inr b))

pub in_left : {A : Type 0} (xs ys : List A) (x : A) → In x xs → In x (xs ++ ys)
unfolding In
in_left [] ys x m = absurd m
in_left (y ∷ xs) ys x m = either m (λ e. inl e) (λ k. inr (in_left xs ys x k))

pub in_right : {A : Type 0} (xs ys : List A) (x : A) → In x ys → In x (xs ++ ys)
unfolding In
in_right [] ys x m = m
in_right (y ∷ xs) ys x m = inr (in_right xs ys x m)
