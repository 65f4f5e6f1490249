-- Boolean tests: going by cases, and what a compound test says of its parts.
-- Assumes nothing.
use mathlib.Core.Path.{◌≡◌, refl, sym, ◌∙◌}
use mathlib.Core.Logic.{◌⊎◌, inl, inr}
use mathlib.Core.Bool.{Bool, true, false, not, ◌&&◌, ◌||◌, true≢false}
use borrow.Author.Tests.{ltb-true, ltb-false, leb-true, leb-false, eqb-true, eqb-false}

-- By cases on a test, with its outcome as an equation.
pub cases {ℓ} : {C : Type ℓ} (b : Bool) → (b ≡ true → C) → (b ≡ false → C) → C
cases true f g = f refl
cases false f g = g refl

pub clash {ℓ} : {A : Type ℓ} {b : Bool} → b ≡ true → b ≡ false → A
clash p q = absurd (true≢false (sym p ∙ q))

pub is_false : (b : Bool) → (b ≡ true → ⊥) → b ≡ false
is_false b h = cases b (λ e. absurd (h e)) (λ e. e)

pub is_true : (b : Bool) → (b ≡ false → ⊥) → b ≡ true
is_true b h = cases b (λ e. e) (λ e. absurd (h e))

-- Two tests that pass together are equal.
pub same_test : (a b : Bool) → (a ≡ true → b ≡ true) → (b ≡ true → a ≡ true) → a ≡ b
same_test a b f g = cases a (λ e. e ∙ sym (f e)) (λ e. e ∙ sym (is_false b (λ t. clash (g t) e)))

pub and_l : (a b : Bool) → (a && b) ≡ true → a ≡ true
and_l true b h = refl
and_l false b h = h

pub and_r : (a b : Bool) → (a && b) ≡ true → b ≡ true
and_r true b h = h
and_r false b h = clash h refl

pub and-true : (a b : Bool) → a ≡ true → b ≡ true → (a && b) ≡ true
and-true true b p q = q
and-true false b p q = p

pub and-false : (a b : Bool) → (a && b) ≡ false → (a ≡ false) ⊎ (b ≡ false)
and-false true b h = inr h
and-false false b h = inl refl

pub or-true : (a b : Bool) → (a || b) ≡ true → (a ≡ true) ⊎ (b ≡ true)
or-true true b h = inl refl
or-true false b h = inr h

pub or_l : (a b : Bool) → (a || b) ≡ false → a ≡ false
or_l true b h = h
or_l false b h = refl

pub or_r : (a b : Bool) → (a || b) ≡ false → b ≡ false
or_r true b h = clash refl h
or_r false b h = h

pub or_left : (a b : Bool) → a ≡ true → (a || b) ≡ true
or_left true b p = refl
or_left false b p = clash p refl

pub or_right : (a b : Bool) → b ≡ true → (a || b) ≡ true
or_right true b p = refl
or_right false b p = p

pub not_t : (a : Bool) → not a ≡ true → a ≡ false
not_t true h = sym h
not_t false h = refl

pub not_f : (a : Bool) → not a ≡ false → a ≡ true
not_f true h = refl
not_f false h = sym h

pub true-not : (a : Bool) → a ≡ false → not a ≡ true
true-not true h = sym h
true-not false h = refl

-- For `search` and `omega`: what a test says of its parts, and of the numbers that it compares.
pub ruleset tests = (and_l, and_r, or_l, or_r, not_t, not_f, ltb-true, ltb-false, leb-true, leb-false, eqb-true, eqb-false)
