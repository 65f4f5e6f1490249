-- Tests of fairness, and that what passes them is fair, or fair by the sentences of 01.
-- Assumes nothing.
use Prim.Native.Nat.{ℕ}
use mathlib.Core.Path.{◌≡◌, refl, sym, ◌∙◌, ap, ap₂, subst}
use mathlib.Core.Logic.{⊎_elim}
use mathlib.Core.Bool.{Bool, true, false, not, ◌&&◌, ◌||◌, cond}
use mathlib.Core.List.{List, [], ◌∷◌, ◌++◌, append-nil, nil≢cons, head-eq_of_cons-eq, tail-eq_of_cons-eq}
use lib.Dec.{eqb}
use lib.ListN.{get_or, take}
use lib.Seq.{append_snoc}
use borrow.Author.Tests.{eqb-true, eq-eqb, ne_eqb}
use Rattle.sets.specs.Search.{any}
use Rattle.sets.specs.Only.{same_list}
use Rattle.sets.specs.Sets.{member}
use Rattle.sets.proofs.Tests.{cases, clash, and_l, and_r, and-true, or-true, not_t, true-not}
use Rattle.sets.proofs.Search.{any_of}
use Rattle.refusals.specs.Outcome.{Outcome}
use Rattle.schedule.specs.declared.rounds.Run.{Run}
use Rattle.schedule.specs.declared.rounds.Round.{Round}
use Rattle.protocol.specs.Nodes.{due}
use Rattle.protocol.specs.Calls.{is_taken, dealing, sending}
use Rattle.protocol.specs.Session.{Setting, keeper}
use Rattle.protocol.proofs.Judgement.{is-taken, taken_is}
use Rattle.protocol.proofs.Taken.{due-sender}
use Rattle.agreement.specs.Lists.{Call, receives, sends, closes, decides, caller, answers, state, Stands, Taken, SameRound, Written, AsSent, HandedInAsSent, Fair, StrictlyFair}

-- Equal lists.
pub same-list : (xs ys : List ℕ) → same_list xs ys ≡ true → xs ≡ ys
unfolding same_list
same-list [] [] e = refl
same-list [] (y ∷ ys) e = clash e refl
same-list (x ∷ xs) [] e = clash e refl
same-list (x ∷ xs) (y ∷ ys) e =
    ap₂ (λ z zs. z ∷ zs) (eqb-true x y (and_l (eqb x y) (same_list xs ys) e)) (same-list xs ys (and_r (eqb x y) (same_list xs ys) e))

-- Does the test pass at every place of the list: for the calls before it and the call there?
unfoldable pub everywhere : (List Call → Call → Bool) → List Call → List Call → Bool
everywhere f done [] = true
everywhere f done (c ∷ rest) = f done c && everywhere f (done ++ (c ∷ [])) rest

pub everywhere-at : (f : List Call → Call → Bool) (done todo : List Call) → everywhere f done todo ≡ true
    → (c : Call) (before : List Call) → Stands c before todo → f (done ++ before) c ≡ true
unfolding everywhere
everywhere-at f done [] e c [] st = absurd (nil≢cons st.1)
everywhere-at f done [] e c (y ∷ before) st = absurd (nil≢cons st.1)
everywhere-at f done (x ∷ todo) e c [] st =
    subst (λ z. f z c ≡ true) (sym (append-nil done))
    (subst (λ z. f done z ≡ true) (head-eq_of_cons-eq st.1) (and_l (f done x) (everywhere f (done ++ (x ∷ [])) todo) e))
everywhere-at f done (x ∷ todo) e c (y ∷ before) st =
    let later = everywhere-at f (done ++ (x ∷ [])) todo (and_r (f done x) (everywhere f (done ++ (x ∷ [])) todo) e)
    c before (st.0, tail-eq_of_cons-eq st.1) in
    subst (λ z. f z c ≡ true) (append_snoc done x before ∙ ap (λ z. done ++ (z ∷ before)) (head-eq_of_cons-eq st.1)) later

-- Does it pass at some place? The last places are tried first: what is looked for is of the round being closed.
unfoldable pub somewhere : (List Call → Call → Bool) → List Call → List Call → Bool
somewhere f done [] = false
somewhere f done (c ∷ rest) = somewhere f (done ++ (c ∷ [])) rest || f done c

pub record Place (f : List Call → Call → Bool) (done todo : List Call) : Type 0 where
  pub call : Call
  pub before : List Call
  pub stands : Stands call before todo
  pub passes : f (done ++ before) call ≡ true

pub somewhere-at : (f : List Call → Call → Bool) (done todo : List Call) → somewhere f done todo ≡ true → Place f done todo
unfolding somewhere
somewhere-at f done [] e = clash e refl
somewhere-at f done (x ∷ todo) e =
    ⊎_elim
    (λ later.
    let p = somewhere-at f (done ++ (x ∷ [])) todo later in
    record {
      call = p.call;
      before = x ∷ p.before;
      stands = (p.stands.0, ap (λ z. x ∷ z) p.stands.1);
      passes = subst (λ z. f z p.call ≡ true) (append_snoc done x p.before) p.passes;
    })
    (λ now. record { call = x; before = []; stands = (todo, refl); passes = subst (λ z. f z x ≡ true) (sym (append-nil done)) now })
    (or-true (somewhere f (done ++ (x ∷ [])) todo) (f done x) e)

-- The same run and round.
unfoldable pub alike : Setting → ℕ → List Call → ℕ → List Call → Bool
alike s q then i now =
    let a = (state s then q).rec in
    let b = (state s now i).rec in
    eqb a.run.0 b.run.0 && eqb a.round.0 b.round.0

pub alike_same : (s : Setting) (q : ℕ) (then : List Call) (i : ℕ) (now : List Call) → alike s q then i now ≡ true → SameRound s q then i now
unfolding alike
alike_same s q then i now e =
    let a = (state s then q).rec in
    let b = (state s now i).rec in
    let to_run : ℕ → Run = λ k. record { 0 = k } in
    let to_round : ℕ → Round = λ k. record { 0 = k } in
    let runs = eqb a.run.0 b.run.0 in
    let rounds = eqb a.round.0 b.round.0 in
    record {
      run = ap to_run (eqb-true a.run.0 b.run.0 (and_l runs rounds e));
      round = ap to_round (eqb-true a.round.0 b.round.0 (and_r runs rounds e));
    }

-- A writing of board q that gave the frame, in the run and round in which board i stands.
unfoldable pub writes : Setting → List Call → ℕ → ℕ → List ℕ → List Call → Call → Bool
writes s before i q f earlier (receives j p g) = false
writes s before i q f earlier (sends j out) =
    let r = sending (state s earlier q) out in
    let size = get_or r.answer.values 0 0 in
    (eqb j q && alike s q earlier i before) && ((is_taken r.answer && same_list r.answer.values (size ∷ [])) && same_list f (take size r.out))
writes s before i q f earlier (closes j) = false
writes s before i q f earlier (decides j) = false

pub writes-written : (s : Setting) (before : List Call) (i q : ℕ) (f : List ℕ) (earlier : List Call) (c : Call)
    → Stands c earlier before → writes s before i q f earlier c ≡ true → Written s before i q f
unfolding writes answers
writes-written s before i q f earlier (receives j p g) st e = clash e refl
writes-written s before i q f earlier (sends j out) st e =
    let r = sending (state s earlier q) out in
    let size = get_or r.answer.values 0 0 in
    let one = same_list r.answer.values (size ∷ []) in
    let now = alike s q earlier i before in
    let who = eqb j q && now in
    let said = is_taken r.answer && one in
    let what = same_list f (take size r.out) in
    let front : who ≡ true = and_l who (said && what) e in
    let back : (said && what) ≡ true = and_r who (said && what) e in
    let answer : said ≡ true = and_l said what back in
    let to_outcome : ℕ → List ℕ → Outcome = λ k vs. record { number = k; values = vs } in
    record {
      earlier = earlier;
      out = out;
      size = size;
      stands = subst (λ k. Stands (sends k out) earlier before) (eqb-true j q (and_l (eqb j q) now front)) st;
      wrote =
          ap₂ to_outcome (is-taken r.answer (and_l (is_taken r.answer) one answer))
          (same-list r.answer.values (size ∷ []) (and_r (is_taken r.answer) one answer));
      same = alike_same s q earlier i before (and_r (eqb j q) now front);
      gave = same-list f (take size r.out) (and_r said what back);
    }
writes-written s before i q f earlier (closes j) st e = clash e refl
writes-written s before i q f earlier (decides j) st e = clash e refl

-- The frame that board q, outside F, sent.
unfoldable pub truthful : Setting → List Call → ℕ → ℕ → List ℕ → Bool
truthful s before i q f =
    let dealt = same_list f (dealing s.width s.plan s.word).values in
    let written = somewhere (writes s before i q f) [] before in
    cond (eqb q s.plan.dealer) dealt written

pub truthful-sent : (s : Setting) (before : List Call) (i q : ℕ) (f : List ℕ) → truthful s before i q f ≡ true → AsSent s before i q f
unfolding truthful
truthful-sent s before i q f told =
    let dealt = same_list f (dealing s.width s.plan s.word).values in
    let written = somewhere (writes s before i q f) [] before in
    record {
      dealt = λ is. same-list f (dealing s.width s.plan s.word).values (sym (ap (λ x. cond x dealt written) (eq-eqb q s.plan.dealer is)) ∙ told);
      written = λ other.
          let p = somewhere-at (writes s before i q f) [] before (sym (ap (λ x. cond x dealt written) (ne_eqb q s.plan.dealer other)) ∙ told) in
          writes-written s before i q f p.before p.call p.stands p.passes;
    }

-- A handing in to board i from board q, outside F, of the frame that q sent, which was taken in the run and round in which board i stands.
unfoldable pub hands : Setting → List Call → ℕ → ℕ → List Call → Call → Bool
hands s before i q earlier (receives j p f) =
    (eqb j i && eqb p q)
    && ((alike s i earlier i before && is_taken (answers (receives i q f) (state s earlier i))) && truthful s earlier i q f)
hands s before i q earlier (sends j out) = false
hands s before i q earlier (closes j) = false
hands s before i q earlier (decides j) = false

pub hands-handed : (s : Setting) (before : List Call) (i q : ℕ) (earlier : List Call) (c : Call)
    → Stands c earlier before → hands s before i q earlier c ≡ true → HandedInAsSent s before i q
unfolding hands caller
hands-handed s before i q earlier (receives j p f) st e =
    let a = answers (receives i q f) (state s earlier i) in
    let who = eqb j i && eqb p q in
    let now = alike s i earlier i before in
    let when = now && is_taken a in
    let told = truthful s earlier i q f in
    let front : who ≡ true = and_l who (when && told) e in
    let back : (when && told) ≡ true = and_r who (when && told) e in
    let then : when ≡ true = and_l when told back in
    let to : j ≡ i = eqb-true j i (and_l (eqb j i) (eqb p q) front) in
    let from : p ≡ q = eqb-true p q (and_r (eqb j i) (eqb p q) front) in
    record {
      handed = record {
        earlier = earlier;
        frame = f;
        stands = subst (λ k. Stands (receives i k f) earlier before) from (subst (λ k. Stands (receives k p f) earlier before) to st);
        taken = is-taken a (and_r now (is_taken a) then);
        same = alike_same s i earlier i before (and_l now (is_taken a) then);
      };
      as-sent = truthful-sent s earlier i q f (and_r when told back);
    }
hands-handed s before i q earlier (sends j out) st e = clash e refl
hands-handed s before i q earlier (closes j) st e = clash e refl
hands-handed s before i q earlier (decides j) st e = clash e refl

-- A frame that board i lacks.
unfoldable pub lacks : Setting → List Call → ℕ → ℕ → Bool
lacks s before i q =
    not (member q s.faulty) && (due s.plan q i (state s before i).rec.round && not (somewhere (hands s before i q) [] before))

-- What fairness asks of a call.
unfoldable pub fair_call : Setting → List Call → Call → Bool
fair_call s before (receives i q f) = keeper s i
fair_call s before (sends i out) = keeper s i
fair_call s before (closes i) =
    keeper s i && (not (is_taken (answers (closes i) (state s before i))) || not (any (lacks s before i) s.plan.n))
fair_call s before (decides i) = keeper s i

unfoldable pub fair_check : Setting → List Call → Bool
fair_check s calls = everywhere (fair_call s) [] calls

-- From the test to fairness.
pub fair-caller : (s : Setting) (before : List Call) (c : Call) → fair_call s before c ≡ true → keeper s (caller c) ≡ true
unfolding fair_call caller
fair-caller s before (receives i q f) e = e
fair-caller s before (sends i out) e = e
fair-caller s before (closes i) e = and_l (keeper s i) _ e
fair-caller s before (decides i) e = e

-- A call that is taken meets what is asked of taken calls.
pub if-taken : (o : Outcome) (b : Bool) → (not (is_taken o) || b) ≡ true → o.number ≡ 0 → b ≡ true
if-taken o b e t = rw (taken_is o t) at e

pub fair-heard : (s : Setting) (i : ℕ) (before : List Call) → fair_call s before (closes i) ≡ true → Taken s (closes i) before
    → (q : ℕ) → member q s.faulty ≡ false → due s.plan q i (state s before i).rec.round ≡ true → HandedInAsSent s before i q
unfolding fair_call caller lacks
fair-heard s i before e t q h d =
    let k = (state s before i).rec.round in
    let handed = somewhere (hands s before i q) [] before in
    let none : any (lacks s before i) s.plan.n ≡ false = not_t _ (if-taken (answers (closes i) (state s before i)) _ (and_r (keeper s i) _ e) t) in
    let there : handed ≡ true = cases handed (λ x. x) (λ x. clash (any_of (lacks s before i) s.plan.n q (due-sender s.plan q i k d)
    (and-true (not (member q s.faulty)) _ (true-not _ h) (and-true (due s.plan q i k) (not handed) d (true-not handed x)))) none) in
    let p = somewhere-at (hands s before i q) [] before there in
    hands-handed s before i q p.before p.call p.stands p.passes

pub checked-fair : (s : Setting) (calls : List Call) → fair_check s calls ≡ true → Fair s calls
unfolding fair_check
checked-fair s calls e =
    let each : (c : Call) (before : List Call) → Stands c before calls → fair_call s before c ≡ true = everywhere-at (fair_call s) [] calls e in
    record {
      callers = λ c before st. fair-caller s before c (each c before st);
      heard = λ i before st. fair-heard s i before (each (closes i) before st);
    }

-- What the first sentence of 01 asks of a call beside it.
unfoldable pub carries_call : Setting → List Call → Call → Bool
carries_call s before (receives i q f) =
    not (is_taken (answers (receives i q f) (state s before i))) || (member q s.faulty || truthful s before i q f)
carries_call s before (sends i out) = true
carries_call s before (closes i) = true
carries_call s before (decides i) = true

unfoldable pub carries_check : Setting → List Call → Bool
carries_check s calls = everywhere (carries_call s) [] calls

pub carries-sent : (s : Setting) (i q : ℕ) (f : List ℕ) (before : List Call) → carries_call s before (receives i q f) ≡ true
    → Taken s (receives i q f) before → member q s.faulty ≡ false → AsSent s before i q f
unfolding carries_call caller
carries-sent s i q f before e t h =
    let told = truthful s before i q f in
    truthful-sent s before i q f
    (⊎_elim (λ x. clash x h) (λ x. x)
    (or-true (member q s.faulty) told (if-taken (answers (receives i q f) (state s before i)) (member q s.faulty || told) e t)))

pub checked-strictly : (s : Setting) (calls : List Call) → fair_check s calls ≡ true → carries_check s calls ≡ true → StrictlyFair s calls
unfolding carries_check
checked-strictly s calls e e' =
    let fair = checked-fair s calls e in
    record {
      callers = fair.callers;
      carried = λ i q f before st. carries-sent s i q f before (everywhere-at (carries_call s) [] calls e' (receives i q f) before st);
      heard = λ i before st ok q fq d. (fair.heard i before st ok q fq d).handed;
    }
