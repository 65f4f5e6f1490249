-- A frame line by its digits: which are good, and what is judged of the lines from a place on.
-- Assumes nothing.
use Prim.Native.Nat.{ℕ, ◌/◌, ◌≤◌, ◌<◌}
use mathlib.Core.Path.{◌≡◌, refl, sym}
use mathlib.Core.Logic.{◌≢◌}
use mathlib.Core.Bool.{true, false, not, ◌&&◌}
use mathlib.Core.List.{List}
use native.Mathlib.Omega.{arith}
use lib.Dec.{eqb, ltb}
use lib.ListN.{length}
use borrow.Author.Tests.{eq-eqb, le-ltb, lt-leb, le-leb}
use Rattle.sets.specs.Sets.{member}
use Rattle.holders.specs.Holders.{holder_table}
use Rattle.sets.proofs.Tests.{clash, is_false, and_l, and_r, not_t}
use Rattle.plan.specs.declared.plan.Plan.{Plan}
use Rattle.plan.specs.Listed.{listed}
use Rattle.schedule.specs.declared.rounds.Run.{Run}
use Rattle.schedule.specs.declared.rounds.Round.{Round}
use Rattle.schedule.specs.Schedule.{has_round}
use Rattle.plan.specs.Calls.{judged}
use Rattle.schedule.proofs.Steps.{has-round}
use Rattle.protocol.specs.Nodes.{sent, due}
use Rattle.frames.specs.Nodes.{Standing}
use Rattle.frames.proofs.Standing.{standing}
use Rattle.hexadecimal.specs.Bytes.{byte_at}
use Rattle.finding.specs.Frames.{line_frame, line_key}
use Rattle.frame_lines.specs.FrameLines.{expected, good_line}

-- A frame that is expected.
module _ (p : Plan) (t : Run) (k : Round) (q i : ℕ) where
  pub no-round : has_round p t k ≡ false → false ≡ expected p t k q i
  unfolding expected
  no-round e = rw e refl

  pub no-board : p.n ≤ i → false ≡ expected p t k q i
  unfolding expected due
  no-board l =
      let b = ltb q p.n && ltb i p.n in
      let d = not (eqb q i) && (not (eqb i p.dealer) && ltb 0 (length (sent p q i k))) in
      sym (is_false (expected p t k q i) (λ x. clash (and_r (ltb q p.n) (ltb i p.n) (and_l b d (and_r (has_round p t k) (b && d) x))) (le-ltb i p.n l)))

  pub no_cells : i ≡ p.dealer → false ≡ expected p t k q i
  unfolding expected due
  no_cells e =
      let b = ltb q p.n && ltb i p.n in
      let c = not (eqb i p.dealer) in
      let d = c && ltb 0 (length (sent p q i k)) in
      let a = not (eqb q i) && d in
      sym (is_false (expected p t k q i) (λ x. clash (eq-eqb i p.dealer e)
      (not_t (eqb i p.dealer) (and_l c (ltb 0 (length (sent p q i k))) (and_r (not (eqb q i)) d (and_r b a (and_r (has_round p t k) (b && a) x)))))))

  pub is-expected-due : has_round p t k ≡ true → due p q i k ≡ expected p t k q i
  unfolding expected
  is-expected-due e = rw e refl

  -- The receiver stands in that round.
  pub receiver-stands : (judged p).number ≡ 0 → has_round p t k ≡ true → i < p.n → i ≢ p.dealer → (holders : List ℕ) → holders ≡ holder_table (listed p)
      → Standing p holders i k
  receiver-stands g h l ne holders e = let at = has-round p t k h in standing p holders i k g l ne at.round-low at.round-high e

-- A good line, test by test.
module _ (p : Plan) (faulty least : ℕ) (line : List ℕ) where
  pub line-short : length line < 8 → false ≡ good_line p faulty least line
  unfolding good_line
  line-short l = rw (lt-leb 4 (length line / 2) (omega arith)) refl

  pub line-falls : 8 ≤ length line → line_key line < least → false ≡ good_line p faulty least line
  unfolding good_line
  line-falls a l = rw (le-leb 4 (length line / 2) (omega arith), lt-leb least (line_key line) l) refl

  pub line-healthy : 8 ≤ length line → least ≤ line_key line → member (byte_at line 2) faulty ≡ false → false ≡ good_line p faulty least line
  unfolding good_line line_frame
  line-healthy a l e = rw (le-leb 4 (length line / 2) (omega arith), le-leb least (line_key line) l, e) refl

  pub line-faulty : 8 ≤ length line → least ≤ line_key line → member (byte_at line 2) faulty ≡ true → member (byte_at line 3) faulty ≡ true
      → false ≡ good_line p faulty least line
  unfolding good_line line_frame
  line-faulty a l e f = rw (le-leb 4 (length line / 2) (omega arith), le-leb least (line_key line) l, e, f) refl

  pub line-rest : 8 ≤ length line → least ≤ line_key line → member (byte_at line 2) faulty ≡ true → member (byte_at line 3) faulty ≡ false
      → expected p (record { 0 = byte_at line 0 }) (record { 0 = byte_at line 1 }) (byte_at line 2) (byte_at line 3) ≡ good_line p faulty least line
  unfolding good_line line_frame
  line-rest a l e f = rw (le-leb 4 (length line / 2) (omega arith), le-leb least (line_key line) l, e, f) refl
