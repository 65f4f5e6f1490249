-- The vote over a table: trying only the children's own values finds the only value elected.
-- Assumes nothing.
use Prim.Native.Nat.{ℕ, ◌+◌, ◌≤◌, ◌<◌}
use mathlib.Core.Path.{◌≡◌, refl, sym, ◌∙◌, ap, subst}
use mathlib.Core.Logic.{◌≢◌, ⊎_elim}
use mathlib.Core.Bool.{Bool, true, false, not, ◌&&◌}
use mathlib.Core.List.{List}
use mathlib.Core.Option.{Option, some, none}
use native.Mathlib.Omega.{arith}
use lib.Dec.{eqb, ltb}
use borrow.Author.Tests.{eqb-true, eqb-false, ltb-true, lt-ltb}
use Rattle.codec.specs.Codec.{current, blank}
use Rattle.sets.specs.Search.{any}
use Rattle.sets.specs.Sets.{member}
use Rattle.sets.specs.Only.{only}
use Rattle.sets.specs.Structure.{tolerated}
use Rattle.sets.proofs.Tests.{cases, clash, is_false, and_l, and_r, and-true, not_t}
use Rattle.sets.proofs.Search.{any-true, any_false}
use Rattle.sets.proofs.Tolerated.{tolerated-empty}
use Rattle.sets.proofs.Only.{only-hit, only-some, only-or}
use Rattle.plan.specs.declared.plan.Plan.{Plan}
use Rattle.plan.specs.Listed.{listed}
use Rattle.voting.specs.Worth.{worth}
use Rattle.voting.specs.Tables.{at, agreeing, elected, voted}
use Rattle.sets.proofs.Collect.{set_of-none}

module _ (f : ℕ → Bool) (k : ℕ) where
  only_none : ((v : ℕ) → v < k → f v ≡ false) → only f k ≡ none
  only_none h = go (only f k) refl
    where
      go : (o : Option ℕ) → only f k ≡ o → only f k ≡ none
      go none e = e
      go (some v) e = let (l, t, u) = only-some f k v e in clash t (h v l)

  only_two : (v w : ℕ) → v < k → w < k → w ≢ v → f v ≡ true → f w ≡ true → only f k ≡ none
  only_two v w lv lw ne tv tw =
      ⊎_elim (λ e. let (l, t, u) = only-some f k v e in clash tw (u w lw ne)) (λ e. e) (only-or f k v lv tv)

module _ (p : Plan) (s : ℕ) (values : List ℕ) where
  -- Is the value of child c below m and elected?
  abbrev pub electing : ℕ → Bool
  electing c = not (member c s) && (ltb (at values c) p.span && elected p s values (at values c))

  electing-value : (c : ℕ) → electing c ≡ true → (at values c < p.span) × (elected p s values (at values c) ≡ true)
  electing-value c t =
      let a = ltb (at values c) p.span in
      let b = elected p s values (at values c) in
      let ab = and_r (not (member c s)) (a && b) t in
      (ltb-true (at values c) p.span (and_l a b ab), and_r a b ab)

  -- A value elected is that of a child.
  elected-child : (v : ℕ) → v < p.span → elected p s values v ≡ true → (c : ℕ) × (c < p.n) × (electing c ≡ true) × (at values c ≡ v)
  unfolding elected agreeing
  elected-child v l t =
      let f : ℕ → Bool = λ c. not (member c s) && eqb (at values c) v in
      cases (any f p.n)
      (λ e. let (c, lc, tc) = any-true f p.n e in
      let z : at values c ≡ v = eqb-true (at values c) v (and_r (not (member c s)) (eqb (at values c) v) tc) in (
        c,
        lc,
        and-true (not (member c s)) _ (and_l (not (member c s)) (eqb (at values c) v) tc)
            (subst (λ x. (ltb x p.span && elected p s values x) ≡ true) (sym z) (and-true (ltb v p.span) (elected p s values v) (lt-ltb v p.span l) t)),
        z,
      ))
      (λ e. clash (ap (tolerated (listed p)) (set_of-none f p.n (any_false f p.n e)) ∙ tolerated-empty (listed p)) (not_t _ t))

  -- Of the children below c: the value that those electing one agree on, the mark if there is none.
  pub record Leading (c found : ℕ) : Type 0 where
    pub agreed : (j : ℕ) → j < c → electing j ≡ true → at values j ≡ found
    pub value : found ≢ blank current → (found < p.span) × (elected p s values found ≡ true)

  pub leading-start : Leading 0 (blank current)
  leading-start = record { agreed = λ j l t. absurd (omega arith); value = λ ne. absurd (ne refl) }

  pub leading-skip : (c found : ℕ) → Leading c found → electing c ≡ false → Leading (c + 1) found
  leading-skip c found h e = record {
    agreed = λ j l t.
        cases (eqb j c)
        (λ q. clash t (subst (λ x. electing x ≡ false) (sym (eqb-true j c q)) e))
        (λ q. let ne : j ≢ c = eqb-false j c q in h.agreed j (omega arith) t);
    value = h.value;
  }

  -- A child worth the value found changes nothing.
  pub leading-same : (c found : ℕ) → Leading c found → at values c ≡ found → Leading (c + 1) found
  leading-same c found h e = record {
    agreed = λ j l t.
        cases (eqb j c)
        (λ q. ap (at values) (eqb-true j c q) ∙ e)
        (λ q. let ne : j ≢ c = eqb-false j c q in h.agreed j (omega arith) t);
    value = h.value;
  }

  -- Child c elects another.
  pub leading_two : (c found : ℕ) → Leading c found → electing c ≡ true → found ≢ blank current → found ≢ at values c → blank current ≡ voted p s values
  unfolding voted worth
  leading_two c found h t ne other =
      let (l, e) = h.value ne in
      let (l', e') = electing-value c t in
      rw (only_two (elected p s values) p.span found (at values c) l l' (λ z. other (sym z)) e e')

  module _ (m : p.span ≤ blank current) where
    -- Child c elects the first value, or the same one.
    pub leading-more : (c found : ℕ) → Leading c found → electing c ≡ true → (found ≢ blank current → found ≡ at values c) → Leading (c + 1) (at values c)
    leading-more c found h t e = record {
      agreed = λ j l tj.
          cases (eqb j c)
          (λ q. ap (at values) (eqb-true j c q))
          (λ q. let ne : j ≢ c = eqb-false j c q in
          let z : at values j ≡ found = h.agreed j (omega arith) tj in
          z ∙ e (λ x. omega (arith, (electing-value j tj).0)));
      value = λ _. electing-value c t;
    }

    -- All children have been asked.
    pub leading_end : (c found : ℕ) → c ≡ p.n → Leading c found → found ≡ voted p s values
    unfolding voted worth
    leading_end c found all h =
        cases (eqb found (blank current))
        (λ q. rw (only_none (elected p s values) p.span (λ v l. is_false (elected p s values v) (λ t.
        let (j, lj, tj, z) = elected-child v l t in
        omega (arith, h.agreed j (omega arith) tj, eqb-true found (blank current) q, (electing-value j tj).0)))) (eqb-true found (blank current) q))
        (λ q. let (l, t) = h.value (eqb-false found (blank current) q) in
        rw (only-hit (elected p s values) p.span found l t (λ w lw ne. is_false (elected p s values w) (λ tw.
        let (j, lj, tj, z) = elected-child w lw tw in
        ne (sym z ∙ h.agreed j (omega arith) tj)))))
