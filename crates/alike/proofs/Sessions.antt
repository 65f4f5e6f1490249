-- The synchronous session on alike plans: board by board the same, the plan apart.
-- Assumes nothing.
use Prim.Native.Nat.{ℕ, ◌<◌}
use mathlib.Core.Path.{◌≡◌, refl, sym, ◌∙◌, ap, subst₂}
use mathlib.Core.Logic.{◌⊎◌, inl, inr, ⊎_elim}
use mathlib.Core.Bool.{true, false, cond}
use mathlib.Core.List.{List, [], ◌∷◌}
use mathlib.Core.Option.{some}
use lib.Dec.{eqb}
use Rattle.codec.specs.Codec.{Width}
use Rattle.sets.specs.Sets.{member}
use Rattle.sets.proofs.Tests.{cases}
use Rattle.plan.specs.declared.plan.Plan.{Plan}
use Rattle.plan.specs.Calls.{void_plan, judged}
use Rattle.settings.specs.Planning.{planning}
use Rattle.admission.specs.Calls.{admitting}
use Rattle.refusals.specs.Outcome.{refused, and_then}
use Rattle.protocol.specs.Rounds.{Board}
use Rattle.protocol.specs.Calls.{Result, is_taken, good_plan, good_record, judge_record, judge_open, fresh_record, void_record, judge_beginning, beginning, judge_receiving, taking, frame_of, closing}
use Rattle.protocol.specs.Session.{Adversary, Setting, begun, hears, at}
use Rattle.synchronous.proofs.Synchronous.{told, at-related}
use Rattle.alike.specs.Alike.{Alike, board_on, result_on}
use Rattle.alike.proofs.Trees.{itself}
use Rattle.alike.proofs.Boards.{begins-alike, takes-alike, frame-of-alike, closes-alike}

-- A board whose record meets number 12 keeps it.
module _ (b : Board) (bad : good_record b.rec ≡ false) where
  bad-open : judge_open b ≡ refused 12
  unfolding judge_open judge_record and_then
  bad-open = rw bad

  bad-takes : (s : ℕ) (vs : List ℕ) → (taking b s vs).board ≡ b
  unfolding taking judge_receiving and_then is_taken
  bad-takes s vs = rw bad-open

  bad-closes : (closing b).board ≡ b
  unfolding closing is_taken
  bad-closes = rw bad-open

bad-void : good_record void_record ≡ false
unfolding good_record good_plan void_record is_taken judged void_plan planning admitting and_then
bad-void = refl

-- One board on two plans: its plan is the one's, and the other's is the same board on the other plan; or both have one record, which meets number 12.
abbrev Kin : Plan → Plan → Board → Board → Type 0
Kin p q b c = ((b ≡ board_on p b) × (c ≡ board_on q b)) ⊎ ((c ≡ b) × (good_record b.rec ≡ false))

module _ (p q : Plan) (a : Alike p q) where
  kin-frame : (b c : Board) → Kin p q b c → frame_of b ≡ frame_of c
  kin-frame b c =
      ⊎_elim
      (λ k. ap frame_of k.0 ∙ frame-of-alike p q a b ∙ ap frame_of (sym k.1))
      (λ k. ap frame_of (sym k.0))

  kin-takes : (b c : Board) (s : ℕ) (vs : List ℕ) → Kin p q b c → Kin p q (taking b s vs).board (taking c s vs).board
  kin-takes b c s vs =
      ⊎_elim
      (λ k. let over : taking b s vs ≡ taking (board_on p b) s vs = ap (λ x. taking x s vs) k.0 in
      let same : (taking b s vs).board ≡ board_on p (taking b s vs).board =
      ap (λ (x : Result). x.board) (over ∙ takes-alike p p (itself p) b s vs ∙ ap (result_on p) (sym over)) in
      let other : (taking c s vs).board ≡ board_on q (taking b s vs).board =
      ap (λ (x : Result). x.board) (ap (λ x. taking x s vs) k.1 ∙ takes-alike p q a b s vs ∙ ap (result_on q) (sym over)) in
      inl (same, other))
      (λ k. let kept = bad-takes b k.1 s vs in
      inr (ap (λ x. (taking x s vs).board) k.0, ap (λ x. good_record x.rec) kept ∙ k.1))

  kin-closes : (b c : Board) → Kin p q b c → Kin p q (closing b).board (closing c).board
  kin-closes b c =
      ⊎_elim
      (λ k. let over : closing b ≡ closing (board_on p b) = ap closing k.0 in
      let same : (closing b).board ≡ board_on p (closing b).board =
      ap (λ (x : Result). x.board) (over ∙ closes-alike p p (itself p) b ∙ ap (result_on p) (sym over)) in
      let other : (closing c).board ≡ board_on q (closing b).board =
      ap (λ (x : Result). x.board) (ap closing k.1 ∙ closes-alike p q a b ∙ ap (result_on q) (sym over)) in
      inl (same, other))
      (λ k. inr (ap (λ x. (closing x).board) k.0, ap (λ x. good_record x.rec) (bad-closes b k.1) ∙ k.1))

  kin-begins : (w : Width) (i : ℕ) (cells : List ℕ) → Kin p q (beginning w p i cells).board (beginning w q i cells).board
  unfolding beginning fresh_record
  kin-begins w i cells =
      let answer = judge_beginning p i cells in
      let other = ap (λ (x : Result). x.board) (begins-alike p q a w i cells) in
      cases (is_taken answer)
      (λ t. inl (begun-own t, other ∙ rw t))
      (λ t. inr (other ∙ rw t, rw t bad-void))
    where
      begun-own : is_taken (judge_beginning p i cells) ≡ true → (beginning w p i cells).board ≡ board_on p (beginning w p i cells).board
      begun-own t = rw t

-- Settings that differ in their plans alone.
module _ (s r : Setting) (same_width_lem : s.width ≡ r.width) (a : Alike s.plan r.plan) (faulty : s.faulty ≡ r.faulty) (word : s.word ≡ r.word) (buffer : s.buffer ≡ r.buffer) (liars : Adversary) where
  abbrev SameBoard : Board → Board → Type 0
  SameBoard = Kin s.plan r.plan

  kin-told : (j : ℕ) → ((i : ℕ) → i < s.plan.n → i ≡ i → SameBoard (at s liars j i) (at r liars j i)) → (i q : ℕ) → q < s.plan.n → told s liars i j q ≡ told r liars i j q
  unfolding hears at
  kin-told j kin i q l = λ x.
      cond (member q (faulty x)) (liars i j q)
      (cond (eqb q (a.dealer x)) (some (word x ∷ [])) (some (kin-frame s.plan r.plan a (at s liars j q) (at r liars j q) (kin q l refl) x)))

  kin-begun : (i : ℕ) → SameBoard (begun s i) (begun r i)
  unfolding begun
  kin-begun i =
      subst₂ (λ w cells. SameBoard (beginning s.width s.plan i (s.buffer i)).board (beginning w r.plan i cells).board) same_width_lem (ap (λ f. f i) buffer)
      (kin-begins s.plan r.plan a s.width i (s.buffer i))

  pub kin-session : (j i : ℕ) → i < s.plan.n → SameBoard (at s liars j i) (at r liars j i)
  kin-session j i l =
      at-related SameBoard (kin-takes s.plan r.plan a) (kin-closes s.plan r.plan a) s r liars a.n (λ i. i ≡ i) (λ i _ _. kin-begun i) kin-told j i l refl

-- What is printed and left of a board.
pub record SameFields (b c : Board) : Type 0 where
  pub decision : b.rec.decision ≡ c.rec.decision
  pub list : b.rec.list ≡ c.rec.list
  pub cells : b.cells ≡ c.cells

pub kin-fields : (p q : Plan) (b c : Board) → Kin p q b c → SameFields b c
kin-fields p q b c =
    ⊎_elim
    (λ k. record {
      decision = sym (ap (λ (x : Board). x.rec.decision) k.1);
      list = sym (ap (λ (x : Board). x.rec.list) k.1);
      cells = sym (ap (λ (x : Board). x.cells) k.1);
    })
    (λ k. record {
      decision = sym (ap (λ (x : Board). x.rec.decision) k.0);
      list = sym (ap (λ (x : Board). x.rec.list) k.0);
      cells = sym (ap (λ (x : Board). x.cells) k.0);
    })
