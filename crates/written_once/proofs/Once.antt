-- An entry is written once: call by call, along the list.
-- Assumes nothing.
use Prim.Native.Nat.{ℕ}
use mathlib.Core.Path.{◌≡◌, refl, sym, ◌∙◌, ap, subst}
use mathlib.Core.Logic.{◌⊎◌, inl, inr, ⊎_elim}
use mathlib.Core.Bool.{true}
use mathlib.Core.List.{List, [], ◌∷◌}
use mathlib.Core.Option.{none}
use lib.Dec.{eqb}
use lib.ListN.{length}
use borrow.Author.Tests.{eqb-true}
use Rattle.codec.specs.Codec.{decode}
use Rattle.sets.proofs.Tests.{cases, clash}
use Rattle.refusals.specs.Outcome.{Outcome, taken}
use Rattle.refusals.proofs.Outcomes.{taken-first}
use Rattle.schedule.specs.declared.rounds.Run.{Run}
use Rattle.schedule.specs.declared.rounds.Round.{Round}
use Rattle.protocol.specs.declared.records.Rule.{Rule}
use Rattle.protocol.specs.declared.records.Entry.{Entry}
use Rattle.protocol.specs.declared.records.Slot.{Slot}
use Rattle.protocol.specs.Listing.{no_entries, entry_at, has_entry}
use Rattle.protocol.specs.Rounds.{Board, receive, close}
use Rattle.protocol.specs.Calls.{is_taken, judge_open, judge_receiving, judge_beginning, closed_values, fresh_record, receiving, taking, closing, beginning}
use Rattle.protocol.specs.Entries.{Names, Writes}
use Rattle.protocol.specs.Session.{Setting, begun, keeper, Sound}
use Rattle.protocol.proofs.Listing.{entry_has, no-entry}
use Rattle.protocol.proofs.Judgement.{is-taken, taken_is}
use Rattle.protocol.proofs.Taken.{taking-taken, taking-refused, closing-taken, closing-refused}
use Rattle.protocol.proofs.Entries.{close-writes, close-seven}
use Rattle.synchronous.proofs.Reached.{Reached, reached-begun}
use Rattle.synchronous.proofs.Synchronous.{begins}
use Rattle.agreement.specs.Lists.{Call, receives, sends, closes, decides, caller, leaves, answers, World, after_one, after, state, Stands, list, list_after}
use Rattle.agreement.proofs.Called.{after-append, one-keeps, after-keeps, reached-leaves}
use Rattle.written_once.specs.Once.{WrittenOnce, EntriesOnce}

-- A board whose list has seven slots, and which was begun and then called in any way.
record Kept (b : Board) : Type 0 where
  reached : Reached b
  seven : length b.rec.list ≡ 7

-- A handing in leaves the list alone.
taking-list : (b : Board) (q : ℕ) (vs : List ℕ) → (taking b q vs).board.rec.list ≡ b.rec.list
taking-list b q vs =
    cases (is_taken (judge_receiving b q))
    (λ e. ap (λ (x : Board). x.rec.list) (taking-taken b q vs (is-taken (judge_receiving b q) e)) ∙ unfold receive in refl)
    (λ e. ap (λ (x : Board). x.rec.list) (taking-refused b q vs e))

-- A call that writes is a closing that is taken.
record Wrote (c : Call) (b : Board) : Type 0 where
  closing-is : c ≡ closes (caller c)
  taken-is-it : (answers c b).number ≡ 0
  writes : Writes b.rec (leaves c b).rec.list
  seven : length (leaves c b).rec.list ≡ 7

-- Every other call leaves the list alone.
does : (c : Call) (b : Board) → Kept b → ((leaves c b).rec.list ≡ b.rec.list) ⊎ Wrote c b
unfolding leaves receiving caller answers closing
does (receives j q f) b k = inl (taking-list b q (decode b.width f))
does (sends j out) b k = inl refl
does (closes j) b k =
    cases (is_taken (judge_open b))
    (λ e. let t = is-taken (judge_open b) e in
    inr (record {
      closing-is = refl;
      taken-is-it = ap (λ (o : Outcome). o.number) (taken-first (judge_open b) (taken (closed_values (close b).rec)) t);
      writes = subst (λ (x : Board). Writes b.rec x.rec.list) (sym (closing-taken b t)) (close-writes b k.reached.good k.seven);
      seven = ap (λ (x : Board). length x.rec.list) (closing-taken b t) ∙ close-seven b k.reached.good k.seven;
    }))
    (λ e. inl (ap (λ (x : Board). x.rec.list) (closing-refused b e)))
does (decides j) b k = inl refl

kept_leaves : (c : Call) (b : Board) → Kept b → Kept (leaves c b)
kept_leaves c b k = record {
  reached = reached-leaves c b k.reached;
  seven = ⊎_elim (λ e. ap length e ∙ k.seven) (λ w. w.seven) (does c b k);
}

-- A board's entry, as it says.
module _ (q : ℕ) (run : Run) (round : Round) (rule : Rule) where
  abbrev Says : List Slot → Type 0
  Says s = entry_at s q ≡ Entry.Listed run round rule

  -- An entry stays.
  record Stands-in (b : Board) : Type 0 where
    kept : Kept b
    says : Says b.rec.list

  says-leaves : (c : Call) (b : Board) → Stands-in b → Stands-in (leaves c b)
  says-leaves c b h = record {
    kept = kept_leaves c b h.kept;
    says = ⊎_elim (λ e. subst Says (sym e) h.says) (λ w. w.writes.stays q run round rule h.says) (does c b h.kept);
  }

  -- The closing that wrote it, in a world.
  record By (w : World) (i : ℕ) (calls : List Call) : Type 0 where
    before : List Call
    stands : Stands (closes i) before calls
    taken_then : (answers (closes i) (after w before i)).number ≡ 0
    none : entry_at (after w before i).rec.list q ≡ Entry.Nothing
    wrote : Says (closing (after w before i)).board.rec.list
    names : Names (after w before i).rec run round rule

  -- It was there, or this call wrote it.
  by_one : (w : World) (i : ℕ) (c : Call) (rest : List Call) → Kept (w i) → Says (after_one w c i).rec.list → Says (w i).rec.list ⊎ By w i (c ∷ rest)
  unfolding after_one after leaves
  by_one w i c rest k h =
      cases (eqb i (caller c))
      (λ e. own (eqb-true i (caller c) e) (rw e at h))
      (λ e. inl (rw e at h))
    where
      own : i ≡ caller c → Says (leaves c (w i)).rec.list → Says (w i).rec.list ⊎ By w i (c ∷ rest)
      own z h' = ⊎_elim (λ e. inl (subst Says e h')) (λ x. first x (entry_at (w i).rec.list q) refl) (does c (w i) k)
        where
          first : Wrote c (w i) → (e : Entry) → entry_at (w i).rec.list q ≡ e → Says (w i).rec.list ⊎ By w i (c ∷ rest)
          first x Entry.Nothing e =
              let is : c ≡ closes i = x.closing-is ∙ ap closes (sym z) in
              inr (record {
                before = [];
                stands = (rest, ap (λ y. y ∷ rest) is);
                taken_then = subst (λ y. (answers y (w i)).number ≡ 0) is x.taken-is-it;
                none = e;
                wrote = subst (λ y. Says (leaves y (w i)).rec.list) is h';
                names = x.writes.new q run round rule e h';
              })
          first x (Entry.Listed run' round' rule') e = inl (e ∙ sym (x.writes.stays q run' round' rule' e) ∙ h')

  by-some : (calls : List Call) (w : World) (i : ℕ) → Kept (w i) → Says (after w calls i).rec.list → Says (w i).rec.list ⊎ By w i calls
  unfolding after
  by-some [] w i k h = inl h
  by-some (c ∷ calls) w i k h =
      ⊎_elim
      (λ here. by_one w i c calls k here)
      (λ by. inr (record {
        before = c ∷ by.before;
        stands = (by.stands.0, ap (λ y. c ∷ y) by.stands.1);
        taken_then = by.taken_then;
        none = by.none;
        wrote = by.wrote;
        names = by.names;
      }))
      (by-some calls (after_one w c) i (one-keeps Kept kept_leaves w c i k) h)

-- A board that begins: it lists nobody.
begun_fresh : (s : Setting) (i : ℕ) → (judge_beginning s.plan i (s.buffer i)).number ≡ 0 → (begun s i).rec.list ≡ no_entries
unfolding begun beginning fresh_record
begun_fresh s i e = rw (taken_is (judge_beginning s.plan i (s.buffer i)) e) refl

begun_kept : (s : Setting) (i : ℕ) → (judge_beginning s.plan i (s.buffer i)).number ≡ 0 → Kept (begun s i)
unfolding begun
begun_kept s i e = record {
  reached = reached-begun s.width s.plan i (s.buffer i) e;
  seven = ap length (begun_fresh s i e);
}

pub entries-once : EntriesOnce
unfolding state list list_after beginning has_entry caller
entries-once s calls i e = record {
  stays = λ before p q run round rule h.
      subst (λ cs. Says q run round rule (after (begun s) cs i).rec.list) (sym p.1)
      (subst (λ w. Says q run round rule (w i).rec.list) (sym (after-append (begun s) before p.0))
      (after-keeps (Stands-in q run round rule) (says-leaves q run round rule) p.0 (after (begun s) before) i
      (record { kept = after-keeps Kept kept_leaves before (begun s) i (begun_kept s i e); says = h })).says);
  written = λ q run round rule h.
      ⊎_elim
      (λ here. clash (entry_has (begun s i).rec.list q run round rule here) (ap (λ x. has_entry (entry_at x q)) (begun_fresh s i e) ∙ ap has_entry (no-entry q)))
      (λ by. record {
        before = by.before;
        stands = by.stands;
        taken = by.taken_then;
        none = by.none;
        wrote = by.wrote;
        names = by.names;
      })
      (by-some q run round rule calls (begun s) i (begun_kept s i e) h);
}

-- So it is for every board that keeps cells in a sound setting, as demand 3 has it.
pub keepers-once : (s : Setting) (calls : List Call) → Sound s → (i : ℕ) → keeper s i ≡ true → WrittenOnce s calls i
unfolding beginning
keepers-once s calls sound i k = entries-once s calls i (begins s (λ _ _ _. none) sound i k)
