-- A closing writes an entry only where there is none, and a new entry names the run and the round that were closed, and a level that the
-- rule can have.
-- Assumes nothing.
use Prim.Native.Nat.{ℕ, ◌-◌, ◌≤◌, ◌<◌}
use mathlib.Core.Path.{◌≡◌, refl, sym, ◌∙◌, ap, subst}
use mathlib.Core.Bool.{true, false}
use mathlib.Core.List.{List, Memᴰ}
use native.Mathlib.Omega.{arith}
use lib.Dec.{eqb, ltb}
use lib.ListN.{length, get_or-eq_default}
use borrow.Author.Tests.{eqb-true, eqb-false, ltb-true, ltb-false}
use Rattle.sets.specs.Sets.{member}
use Rattle.sets.proofs.Tests.{cases, clash}
use Rattle.sets.proofs.Tabulated.{tabulate-length}
use Rattle.schedule.specs.declared.rounds.Run.{Run}
use Rattle.schedule.specs.declared.rounds.Round.{Round}
use Rattle.schedule.specs.Schedule.{rounds}
use Rattle.tree.specs.Labels.{Label, last}
use Rattle.protocol.specs.declared.records.Rule.{Rule}
use Rattle.protocol.specs.declared.records.Entry.{Entry}
use Rattle.protocol.specs.declared.records.Slot.{Slot}
use Rattle.protocol.specs.declared.records.Record.{Record}
use Rattle.protocol.specs.Listing.{unlisted, entry_at, has_entry, level_of, join, as_set}
use Rattle.protocol.specs.Nodes.{inner}
use Rattle.protocol.specs.Rounds.{Board, close}
use Rattle.protocol.specs.Entries.{Names, Writes}
use Rattle.protocol.proofs.Listing.{entry_has, entry_listed, entry-joined, entry_other}
use Rattle.protocol.proofs.Joining.{close-keeps}
use Rattle.protocol.proofs.Bounds.{inner_below, inner-length, inner-low, inner-high}
use Rattle.protocol.proofs.Judgement.{Good, good-dealer, plan-facts}

-- A list has seven slots, so who has an entry is below 7.
pub entry-below : (s : List Slot) (q : ℕ) (run : Run) (round : Round) (rule : Rule) → length s ≡ 7 → entry_at s q ≡ Entry.Listed run round rule → q < 7
unfolding entry_at has_entry
entry-below s q run round rule seven e =
    cases (ltb q 7)
    (λ l. ltb-true q 7 l)
    (λ l. clash (entry_has s q run round rule e) (ap (λ (x : Slot). has_entry x.entry) (get_or-eq_default s unlisted {n = q} (omega (arith, ltb-false q 7 l)))))

pub join-seven : (q : ℕ) (run : Run) (round : Round) (rule : Rule) (s : List Slot) → length (join q run round rule s) ≡ 7
unfolding join
join-seven q run round rule s = tabulate-length _ 0 7

-- The parts of an entry.
run_of : Run → Entry → Run
run_of t Entry.Nothing = t
run_of t (Entry.Listed run round rule) = run

round_of : Round → Entry → Round
round_of k Entry.Nothing = k
round_of k (Entry.Listed run round rule) = round

rule_of : Rule → Entry → Rule
rule_of x Entry.Nothing = x
rule_of x (Entry.Listed run round rule) = rule

-- As the closing goes on: the list has seven slots, the entries that stood before it stand, and the others name it.
record Going (r : Record) (s : List Slot) : Type 0 where
  seven : length s ≡ 7
  written : Writes r s

module _ (r : Record) where
  going_start : length r.list ≡ 7 → Going r r.list
  unfolding has_entry
  going_start seven = record {
    seven = seven;
    written = record {
      stays = λ q run round rule e. e;
      new = λ q run round rule none e. clash (entry_has r.list q run round rule e) (ap has_entry none);
    };
  }

  -- Who joins had no entry, and the rule fits.
  going-joins : (q : ℕ) (rule : Rule) (s : List Slot) → q < 7 → Names r r.run r.round rule → member q (as_set s) ≡ false
      → Going r s → Going r (join q r.run r.round rule s)
  unfolding run_of round_of rule_of
  going-joins q rule s below names out g = record {
    seven = join-seven q r.run r.round rule s;
    written = record {
      stays = λ c run round rule' e.
          let here = g.written.stays c run round rule' e in
          let lc = entry-below s c run round rule' g.seven here in
          entry_other r.run r.round rule q s c lc
          (λ z. clash (subst (λ x. member x (as_set s) ≡ true) z (entry_listed s c lc (entry_has s c run round rule' here))) out)
          ∙ here;
      new = λ c run round rule' none e.
          let lc = entry-below (join q r.run r.round rule s) c run round rule' (join-seven q r.run r.round rule s) e in
          cases (eqb c q)
          (λ z. let z' = eqb-true c q z in
          let said : Entry.Listed r.run r.round rule ≡ Entry.Listed run round rule' =
          sym (entry-joined r.run r.round rule q s below) ∙ subst (λ x. entry_at (join q r.run r.round rule s) x ≡ Entry.Listed run round rule') z' e in
          let same : rule ≡ rule' = ap (rule_of rule) said in
          record {
            run-closed = sym (ap (run_of run) said);
            round-closed = sym (ap (round_of round) said);
            by-G = λ level x. names.by-G level (same ∙ x);
            by-C = λ level x. names.by-C level (same ∙ x);
            level-low = subst (λ x. 1 ≤ level_of x) same names.level-low;
            level-high = subst (λ x. level_of x < (rounds r.plan).0) same names.level-high;
          })
          (λ z. g.written.new c run round rule' none (sym (entry_other r.run r.round rule q s c lc (eqb-false c q z)) ∙ e));
    };
  }

level_g : ℕ → Rule → ℕ
level_g x (Rule.G level) = level
level_g x (Rule.C level) = x

is_c : Rule → ℕ
is_c (Rule.G level) = 0
is_c (Rule.C level) = 1

-- What joins at an internal node names the closing.
module _ (b : Board) (good : Good b.rec) where
  abbrev r : Record
  r = b.rec

  end_below : (k : ℕ) (α : Label) → Memᴰ α (inner r.plan r.board k) → last α < 7
  end_below k α m =
      omega (arith, inner_below r.plan (good-dealer r good) r.board k α m, (plan-facts r.plan good.plan-good).admission.most-boards)

  names-G : (α : Label) → Memᴰ α (inner r.plan r.board (r.round.0 - 1)) → Names r r.run r.round (Rule.G (length α))
  unfolding level_of level_g is_c
  names-G α m =
      let size = inner-length r.plan (good-dealer r good) r.board (r.round.0 - 1) α m in
      let low = inner-low r.plan r.board (r.round.0 - 1) α m in
      record {
        run-closed = refl;
        round-closed = refl;
        by-G = λ level e. let z : length α ≡ level = ap (level_g 0) e in omega (arith, size, low);
        by-C = λ level e. let z : ◌≡◌ {A = ℕ} 0 1 = ap is_c e in absurd (let y : ⊥ = omega arith in y);
        level-low = omega (arith, size, low);
        level-high = inner-high r.plan (good-dealer r good) r.board (r.round.0 - 1) α m;
      }

  names-C : ltb r.round.0 (rounds r.plan).0 ≡ false → (k : ℕ) (α : Label) → Memᴰ α (inner r.plan r.board k)
      → Names r r.run r.round (Rule.C (length α))
  unfolding level_of is_c
  names-C end k α m =
      let size = inner-length r.plan (good-dealer r good) r.board k α m in
      let low = inner-low r.plan r.board k α m in
      record {
        run-closed = refl;
        round-closed = refl;
        by-G = λ level e. let z : ◌≡◌ {A = ℕ} 1 0 = ap is_c e in absurd (let y : ⊥ = omega arith in y);
        by-C = λ level e. omega (arith, ltb-false r.round.0 (rounds r.plan).0 end, good.position.round-high);
        level-low = omega (arith, size, low);
        level-high = inner-high r.plan (good-dealer r good) r.board k α m;
      }

  going-ends : length r.list ≡ 7 → Going r (close b).rec.list
  going-ends seven =
      close-keeps b (Going r)
      (λ α s m out g. going-joins r (last α) (Rule.G (length α)) s (end_below (r.round.0 - 1) α m) (names-G α m) out g)
      (λ end k α s m out g. going-joins r (last α) (Rule.C (length α)) s (end_below k α m) (names-C end k α m) out g)
      (going_start r seven)

  pub close-writes : length r.list ≡ 7 → Writes r (close b).rec.list
  close-writes seven = (going-ends seven).written

  pub close-seven : length r.list ≡ 7 → length (close b).rec.list ≡ 7
  close-seven seven = (going-ends seven).seven
