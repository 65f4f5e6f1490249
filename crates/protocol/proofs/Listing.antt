-- The laws of joining: who joins has the entry that is written, the others keep theirs; so who joins is on the list, who was on it stays, and
-- nobody else comes. A good list names boards below n and has entries that the plan allows.
-- Assumes nothing.
use Prim.Native.Nat.{ℕ, ◌≤◌, ◌<◌, ◌^◌}
use mathlib.Core.Path.{◌≡◌, refl, sym, ap, ◌∙◌, subst}
use mathlib.Core.Logic.{◌≢◌, ◌⊎◌, inl, inr, ⊎_elim, ◌↔◌}
use mathlib.Core.Bool.{true, ◌&&◌, cond}
use mathlib.Core.List.{List}
use native.Mathlib.Omega.{arith}
use lib.Dec.{eqb, ltb}
use lib.Bits.{or_lt}
use lib.Pow.{pow-lt, pow_pos}
use lib.ListN.{get_or, get_or-replicate, length-replicate, get_or-eq_default}
use borrow.Author.Tests.{eqb-true, eqb-false, eq-eqb, ne_eqb, lt-ltb, ltb-true, ltb-false}
use Rattle.sets.specs.Sets.{member, insert, boards}
use Rattle.sets.proofs.Tests.{cases, clash, is_false, same_test, and_l, and_r, and-true, or-true, or_left, or_right}
use Rattle.sets.proofs.Member.{same-members, member-insert, member-set_of, set_of-below, member-boards, member-high, member-within, within-boards, no_member}
use Rattle.sets.proofs.Tabulated.{tabulate-at}
use Rattle.plan.specs.declared.plan.Plan.{Plan}
use Rattle.schedule.specs.declared.rounds.Run.{Run}
use Rattle.schedule.specs.declared.rounds.Round.{Round}
use Rattle.schedule.specs.Schedule.{rounds, has_round}
use Rattle.schedule.proofs.Steps.{Has, has-round, round-has}
use Rattle.protocol.specs.declared.records.Rule.{Rule}
use Rattle.protocol.specs.declared.records.Entry.{Entry}
use Rattle.protocol.specs.declared.records.Slot.{Slot}
use Rattle.protocol.specs.Listing.{unlisted, no_entries, entry_at, has_entry, level_of, join, as_set}
use Rattle.protocol.specs.Calls.{good_entry}

pub insert-below : (n r s : ℕ) → r < n → s < 2 ^ n → insert r s < 2 ^ n
unfolding insert
insert-below n r s l h = or_lt n s (2 ^ r) h (pow-lt l)

-- 02 d: "The list as a set is the boards that have an entry."
pub listed-entry : (s : List Slot) (i : ℕ) → member i (as_set s) ≡ true → has_entry (entry_at s i) ≡ true
unfolding as_set
listed-entry s i h = and_r (ltb i 7) (has_entry (entry_at s i)) (sym (member-set_of (λ r. has_entry (entry_at s r)) 7 i) ∙ h)

pub listed_below : (s : List Slot) (i : ℕ) → member i (as_set s) ≡ true → i < 7
unfolding as_set
listed_below s i h = ltb-true i 7 (and_l (ltb i 7) (has_entry (entry_at s i)) (sym (member-set_of (λ r. has_entry (entry_at s r)) 7 i) ∙ h))

pub entry_listed : (s : List Slot) (i : ℕ) → i < 7 → has_entry (entry_at s i) ≡ true → member i (as_set s) ≡ true
unfolding as_set
entry_listed s i l h = member-set_of (λ r. has_entry (entry_at s r)) 7 i ∙ and-true (ltb i 7) (has_entry (entry_at s i)) (lt-ltb i 7 l) h

pub set_below : (s : List Slot) → as_set s < 2 ^ 7
unfolding as_set
set_below s = set_of-below (λ r. has_entry (entry_at s r)) 7

-- A board whose slot has an entry, with what it says.
pub entry_has : (s : List Slot) (i : ℕ) (run : Run) (round : Round) (rule : Rule) → entry_at s i ≡ Entry.Listed run round rule → has_entry (entry_at s i) ≡ true
unfolding has_entry
entry_has s i run round rule e = ap has_entry e

-- Nobody is on the list of a board that begins.
pub no-entry : (i : ℕ) → entry_at no_entries i ≡ Entry.Nothing
unfolding entry_at
no-entry i =
    ap (λ (x : Slot). x.entry)
    (cases (ltb i 7)
    (λ l. get_or-replicate 7 i unlisted unlisted (ltb-true i 7 l))
    (λ l. get_or-eq_default no_entries unlisted {n = i} (omega (arith, length-replicate 7 unlisted, ltb-false i 7 l))))

pub none-listed : as_set no_entries ≡ 0
unfolding has_entry
none-listed =
    no_member 7 (as_set no_entries) (set_below no_entries)
    (λ i l. is_false (member i (as_set no_entries)) (λ h. clash (listed-entry no_entries i h) (ap has_entry (no-entry i))))

module _ (run : Run) (round : Round) (rule : Rule) where
  slot-joined : (r : ℕ) (s : List Slot) (i : ℕ) → i < 7
      → get_or (join r run round rule s) i unlisted ≡ cond (eqb i r) (record { entry = Entry.Listed run round rule }) (get_or s i unlisted)
  unfolding join
  slot-joined r s i l = tabulate-at _ 7 i unlisted l

  pub entry-joined : (r : ℕ) (s : List Slot) → r < 7 → entry_at (join r run round rule s) r ≡ Entry.Listed run round rule
  unfolding entry_at
  entry-joined r s l =
      ap (λ (x : Slot). x.entry)
      (slot-joined r s r l ∙ ap (λ b. cond b (record { entry = Entry.Listed run round rule }) (get_or s r unlisted)) (eq-eqb r r refl))

  pub entry_other : (r : ℕ) (s : List Slot) (i : ℕ) → i < 7 → i ≢ r → entry_at (join r run round rule s) i ≡ entry_at s i
  unfolding entry_at
  entry_other r s i l ne =
      ap (λ (x : Slot). x.entry)
      (slot-joined r s i l ∙ ap (λ b. cond b (record { entry = Entry.Listed run round rule }) (get_or s i unlisted)) (ne_eqb i r ne))

  pub join-has : (r : ℕ) (s : List Slot) → r < 7 → member r (as_set (join r run round rule s)) ≡ true
  join-has r s l = entry_listed (join r run round rule s) r l (entry_has (join r run round rule s) r run round rule (entry-joined r s l))

  pub join-keeps : (r : ℕ) (s : List Slot) (i : ℕ) → member i (as_set s) ≡ true → member i (as_set (join r run round rule s)) ≡ true
  join-keeps r s i h =
      let l = listed_below s i h in
      cases (eqb i r)
      (λ e. subst (λ x. member x (as_set (join r run round rule s)) ≡ true) (sym (eqb-true i r e)) (join-has r s (subst (λ x. x < 7) (eqb-true i r e) l)))
      (λ e. entry_listed (join r run round rule s) i l (ap has_entry (entry_other r s i l (eqb-false i r e)) ∙ listed-entry s i h))

  pub join-inv : (r : ℕ) (s : List Slot) (i : ℕ) → member i (as_set (join r run round rule s)) ≡ true → (i ≡ r) ⊎ (member i (as_set s) ≡ true)
  join-inv r s i h =
      let l = listed_below (join r run round rule s) i h in
      cases (eqb i r)
      (λ e. inl (eqb-true i r e))
      (λ e. inr (entry_listed s i l (sym (ap has_entry (entry_other r s i l (eqb-false i r e))) ∙ listed-entry (join r run round rule s) i h)))

  -- Read as a set, joining is what it was before entries: the set with the board.
  pub join-set : (r : ℕ) (s : List Slot) → r < 7 → as_set (join r run round rule s) ≡ insert r (as_set s)
  join-set r s l =
      let joined = join r run round rule s in
      same-members 7 (as_set joined) (insert r (as_set s)) (set_below joined) (insert-below 7 r (as_set s) l (set_below s))
      (λ i _. same_test (member i (as_set joined)) (member i (insert r (as_set s)))
      (λ h. member-insert i r (as_set s) ∙ ⊎_elim (λ e. or_left (eqb i r) (member i (as_set s)) (eq-eqb i r e)) (or_right (eqb i r) (member i (as_set s))) (join-inv r s i h))
      (λ h. ⊎_elim
      (λ e. subst (λ x. member x (as_set joined) ≡ true) (sym (eqb-true i r e)) (join-has r s l))
      (join-keeps r s i)
      (or-true (eqb i r) (member i (as_set s)) (sym (member-insert i r (as_set s)) ∙ h))))

  join-below : (n r : ℕ) (s : List Slot) → r < n → as_set s < 2 ^ n → as_set (join r run round rule s) < 2 ^ n
  join-below n r s l h =
      within-boards n (as_set (join r run round rule s))
      (member-within 7 (as_set (join r run round rule s)) (boards n) (set_below (join r run round rule s))
      (λ i _ m. member-boards i n
      ∙ ⊎_elim
      (λ e. lt-ltb i n (subst (λ x. x < n) (sym e) l))
      (λ on. cases (ltb i n) (λ e. e) (λ e. clash on (member-high n i (as_set s) h (omega (arith, ltb-false i n e)))))
      (join-inv r s i m)))

-- What number 12 asks of an entry: a run and a round of the plan, and a level from 1 to R − 1.
pub record GoodEntry (p : Plan) (run : Run) (round : Round) (rule : Rule) : Type 0 where
  pub position : Has p run round
  pub level-low : 1 ≤ level_of rule
  pub level-high : level_of rule < (rounds p).0

pub entry-ground : (p : Plan) (run : Run) (round : Round) (rule : Rule) → (good_entry p (Entry.Listed run round rule) ≡ true) ↔ GoodEntry p run round rule
unfolding good_entry
entry-ground p run round rule =
    let k = level_of rule in
    let low = ltb 0 k in
    let high = ltb k (rounds p).0 in (
      λ e. let levels = and_r (has_round p run round) (low && high) e in
          record {
            position = has-round p run round (and_l (has_round p run round) (low && high) e);
            level-low = omega (arith, ltb-true 0 k (and_l low high levels));
            level-high = ltb-true k (rounds p).0 (and_r low high levels);
          },
      λ g. and-true (has_round p run round) (low && high) (round-has p run round g.position)
          (and-true low high (lt-ltb 0 k (omega (arith, g.level-low))) (lt-ltb k (rounds p).0 g.level-high)),
    )

-- The list names boards below n, and its entries are good.
pub record GoodList (p : Plan) (s : List Slot) : Type 0 where
  pub below : as_set s < 2 ^ p.n
  pub entries : (i : ℕ) → i < 7 → good_entry p (entry_at s i) ≡ true

pub none-good : (p : Plan) → GoodList p no_entries
unfolding good_entry
none-good p = record {
  below = subst (λ x. x < 2 ^ p.n) (sym none-listed) (pow_pos p.n);
  entries = λ i l. ap (good_entry p) (no-entry i);
}

pub join-good : (p : Plan) (r : ℕ) (run : Run) (round : Round) (rule : Rule) (s : List Slot) → r < p.n → GoodEntry p run round rule → GoodList p s
    → GoodList p (join r run round rule s)
join-good p r run round rule s l good g =
    let joined = (entry-ground p run round rule).1 good in
    record {
      below = join-below run round rule p.n r s l g.below;
      entries = λ i h. cases (eqb i r)
          (λ e. subst (λ x. good_entry p (entry_at (join r run round rule s) x) ≡ true) (sym (eqb-true i r e))
          (ap (good_entry p) (entry-joined run round rule r s (subst (λ x. x < 7) (eqb-true i r e) h)) ∙ joined))
          (λ e. ap (good_entry p) (entry_other run round rule r s i h (eqb-false i r e)) ∙ g.entries i h);
    }
