-- How the values of its children decide a node.
-- Assumes nothing.
use Prim.Native.Nat.{ℕ, suc, ◌<◌}
use mathlib.Core.Path.{◌≡◌, sym, ◌∙◌, ap}
use mathlib.Core.Logic.{◌≢◌, ◌⊎◌}
use mathlib.Core.Bool.{true, false, not}
use mathlib.Core.Option.{Option, some, none, some-injective}
use Rattle.sets.proofs.Tests.{is_true, same_test, not_f, tests}
use Rattle.tree.specs.Labels.{Label, occurs}
use Rattle.sets.specs.Only.{same}
use Rattle.theory.specs.Tree.{Boards, Sub, path, Plan, Healthy, Node, Good, votes, others, winner}
use Rattle.sets.proofs.Only.{same_true, eq-same, only-hit, only-or, only_same}
use Rattle.theory.proofs.Nodes.{healthy-off, within, large}

-- A child that does not contradict v has it.
pub no_other : (α : Label) (f : ℕ → Option ℕ) (v c : ℕ) → occurs c α ≡ false → others α f v c ≡ false → f c ≡ some v
no_other α f v c a o = same_true (f c) (some v) (not_f (same (f c) (some v)) (rw a at o))

module _ {P : Plan} {F : Boards} (G : Good P F) (α : Label) (f : ℕ → Option ℕ) where
  -- A value has enough votes if the boards outside F and outside a tolerated set are children that vote for it.
  pub enough : (s : Boards) (v : ℕ) → P.tol s ≡ true
      → ((c : ℕ) → c < P.n → s c ≡ false → F c ≡ false → (occurs c α ≡ false) × (f c ≡ some v)) → P.tol (votes α f v) ≡ false
  enough s v t h = large G s (votes α f v) t (λ c l o e. let (a, x) = h c l o e in rw a (eq-same (f c) (some v) x))

  -- A value that alone has enough votes wins.
  pub wins : (v : ℕ) → v < P.m → P.tol (votes α f v) ≡ false → ((w : ℕ) → w < P.m → w ≢ v → P.tol (votes α f w) ≡ true) → winner P α f ≡ some v
  unfolding winner
  wins v l t h = only-hit (λ w. not (P.tol (votes α f w))) P.m v l (rw t) (λ w lw ne. rw (h w lw ne))

  -- Where a value has enough votes, no other wins.
  pub wins-or-none : (v : ℕ) → v < P.m → P.tol (votes α f v) ≡ false → (winner P α f ≡ some v) ⊎ (winner P α f ≡ none)
  unfolding winner
  wins-or-none v l t = only-or (λ w. not (P.tol (votes α f w))) P.m v l (rw t)

  -- Healthy children of one mind decide.
  pub decide : {p k : ℕ} (v : ℕ) → Healthy P F p → Node P p (suc k) α → P.inner p α ≡ true → v < P.m
      → ((c : ℕ) → Healthy P F c → occurs c α ≡ false → f c ≡ some v) → winner P α f ≡ some v
  decide v H N t l h =
      wins v l
      (enough (path α) v (G.inner-tol H N t) (λ c lc a fc. (a, h c (healthy-off N lc a fc) a)))
      (λ w lw ne. within G (votes α f w) (λ c lc e. is_true (F c) (λ fc.
      let a : occurs c α ≡ false = search tests in
      let x : f c ≡ some w = search (tests, same_true) in
      ne (some-injective w v (sym x ∙ h c (healthy-off N lc a fc) a)))))

  -- Other values that agree on the children have the same winner.
  pub same-winner : (g : ℕ → Option ℕ) → ((c : ℕ) → c < P.n → occurs c α ≡ false → f c ≡ g c) → winner P α f ≡ winner P α g
  unfolding winner
  same-winner g h =
      only_same (λ v. not (P.tol (votes α f v))) (λ v. not (P.tol (votes α g v))) P.m
      (λ v _. ap not (same_test (P.tol (votes α f v)) (P.tol (votes α g v))
      (G.monotone (votes α g v) (votes α f v) (over v g f (λ c l a. sym (h c l a))))
      (G.monotone (votes α f v) (votes α g v) (over v f g h))))
    where
      over : (v : ℕ) (f g : ℕ → Option ℕ) → ((c : ℕ) → c < P.n → occurs c α ≡ false → f c ≡ g c) → Sub P.n (votes α f v) (votes α g v)
      over v f g h i l e = rw (← (h i l (search tests))) e
