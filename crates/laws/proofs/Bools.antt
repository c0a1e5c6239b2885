-- Laws of Booleans, and reasoning by cases on a test. Assumes nothing.
use mathlib.Core.Path.{◌≡◌, refl, sym, ◌∙◌}
use mathlib.Core.Bool.{Bool, true, false, not, ◌&&◌, ◌||◌, cond, true≢false, false≢true}
use mathlib.Core.Logic.{◌⊎◌, inl, inr}

pub and_l : (a b : Bool) → (a && b) ≡ true → a ≡ true
and_l true b h = refl
and_l false b h = h

pub and_r : (a b : Bool) → (a && b) ≡ true → b ≡ true
and_r true b h = h
and_r false b h = absurd (false≢true h)

pub both : (a b : Bool) → a ≡ true → b ≡ true → (a && b) ≡ true
both true b p q = q
both false b p q = p

pub or_l : (a b : Bool) → (a || b) ≡ false → a ≡ false
or_l true b h = h
or_l false b h = refl

pub or_r : (a b : Bool) → (a || b) ≡ false → b ≡ false
or_r true b h = absurd (true≢false h)
or_r false b h = h

pub or_cases : (a b : Bool) → (a || b) ≡ true → (a ≡ true) ⊎ (b ≡ true)
or_cases true b h = inl refl
or_cases false b h = inr h

pub or_left : (a b : Bool) → a ≡ true → (a || b) ≡ true
or_left true b p = refl
or_left false b p = absurd (false≢true p)

pub or_right : (a b : Bool) → b ≡ true → (a || b) ≡ true
or_right true b p = refl
or_right false b p = p

pub nor : (a b : Bool) → a ≡ false → b ≡ false → (a || b) ≡ false
nor true b p q = p
nor false b p q = q

pub not_of_true : (a : Bool) → a ≡ true → not a ≡ false
not_of_true true h = refl
not_of_true false h = sym h

pub not_of_false : (a : Bool) → a ≡ false → not a ≡ true
not_of_false true h = sym h
not_of_false false h = refl

-- no test both holds and fails
pub clash : {A : Type 0} (a : Bool) → a ≡ true → a ≡ false → A
clash a p q = absurd (true≢false (sym p ∙ q))

-- by cases on a test, with what each case knows
pub split : {A : Type 0} (a : Bool) → (a ≡ true → A) → (a ≡ false → A) → A
split true p q = p refl
split false p q = q refl

pub either : {A B C : Type 0} → A ⊎ B → (A → C) → (B → C) → C
either (inl a) p q = p a
either (inr b) p q = q b

-- two tests agree if each follows from the other
pub agree : (a b : Bool) → (a ≡ true → b ≡ true) → (b ≡ true → a ≡ true) → a ≡ b
agree true b p q = sym (p refl)
agree false true p q = q refl
agree false false p q = refl

-- a conditional test that held, by the way that was taken
pub cond_then : (a b c : Bool) → a ≡ true → cond a b c ≡ true → b ≡ true
cond_then true b c p h = h
cond_then false b c p h = absurd (false≢true p)

pub cond_else : (a b c : Bool) → a ≡ false → cond a b c ≡ true → c ≡ true
cond_else true b c p h = absurd (true≢false p)
cond_else false b c p h = h

-- and the way back
pub cond_of : (a b c : Bool) → (a ≡ true → b ≡ true) → (a ≡ false → c ≡ true) → cond a b c ≡ true
cond_of true b c p q = p refl
cond_of false b c p q = q refl
