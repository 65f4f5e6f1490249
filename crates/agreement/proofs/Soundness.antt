-- Lists hold faulty boards only, and healthy boards have one another's cells, after every step of the session.
-- Assumes nothing.
use Prim.Native.Nat.{ℕ, zero, suc, ◌+◌, ◌-◌, ◌≤◌, ◌<◌}
use mathlib.Core.Path.{◌≡◌, refl, sym, ◌∙◌, ap, subst}
use mathlib.Core.Logic.{◌≢◌, ⊎_elim}
use mathlib.Core.Bool.{true, false}
use mathlib.Core.List.{List, [], ◌∷◌, map, Memᴰ}
use mathlib.Core.Option.{some, get_or}
use native.Mathlib.Omega.{arith}
use lib.Dec.{eqb, ltb}
use lib.ListN.{length}
use borrow.Author.Tests.{eqb-true, eqb-false, eq-eqb, ne_eqb, ltb-true, ltb-false, lt-ltb}
use Rattle.codec.specs.Codec.{Width}
use Rattle.sets.specs.Sets.{member}
use Rattle.sets.proofs.Tests.{cases, clash, is_false, or_r}
use Rattle.sets.proofs.Member.{member-empty}
use Rattle.plan.specs.declared.plan.Plan.{Plan}
use Rattle.plan.specs.Values.{default}
use Rattle.schedule.specs.declared.rounds.Round.{Round}
use Rattle.schedule.specs.Schedule.{rounds, steps, step_run, step_round}
use Rattle.schedule.proofs.Levels.{rounds-pos}
use Rattle.tree.specs.Labels.{Label, occurs, last}
use Rattle.tree.specs.Places.{cell_count, place, level_start, level_size, rank}
use Rattle.tree.specs.Cells.{cell_at}
use Rattle.tree.proofs.Labels.{label-dealer, root-has}
use Rattle.theory.specs.Tree as T
use Rattle.theory.specs.Runs.{Flow}
use Rattle.theory.specs.Tree.{root, child}
use Rattle.theory.proofs.Uniform.{uniform, healthy-node}
use Rattle.protocol.specs.declared.records.Record.{Record}
use Rattle.protocol.specs.Listing.{as_set}
use Rattle.protocol.specs.Nodes.{read, internal, inner, sent, due}
use Rattle.protocol.specs.Detection.{Scan, by_resolving, resolve_root, detect_levels}
use Rattle.protocol.specs.Records.{run_ended}
use Rattle.protocol.specs.Rounds.{root_only, next_round, convert, Board, gather}
use Rattle.protocol.specs.Session.{Adversary, Setting, at, take_all, keeper, Sound}
use Rattle.protocol.specs.Calls.{fresh_record}
use Rattle.protocol.proofs.Listing.{none-listed}
use Rattle.protocol.proofs.Nodes.{inner-moves, inner-inv, inner-has, node-label, node-length, node-root, node-inv, node-has, no_node}
use Rattle.protocol.proofs.Fill.{IsLabel}
use Rattle.protocol.proofs.Judgement.{plan-facts, plan-default}
use Rattle.protocol.proofs.Bounds.{read_small, root-small}
use Rattle.synchronous.proofs.Hearing.{stored, filled, filled-length, delivered, value_same}
use Rattle.synchronous.proofs.Synchronous.{at-start, begun-shape, told, keeper-facts, standing, position, number, heard_all, ready, after-step, close-next, close-last, next-run, more-runs}
use Rattle.agreement.proofs.RuleC.{Minds, levels_sound}
use Rattle.agreement.proofs.Instance.{inst, mem-node, node-mem, node-level, node-size, resolve-inst, boards_of, list_of}
use Rattle.agreement.proofs.RuleG.{scan-cell, scan-sound}
use Rattle.agreement.proofs.Delivery.{most-boards, good, healthy, healthy-keeper, told-word, st, rec, rec-good, stored-cells, scanned, stored-healthy, scanned-other}

module _ (s : Setting) (a : Adversary) (sound : Sound s) where
  abbrev plan : Plan
  plan = s.plan

  abbrev F : ℕ
  F = s.faulty

  -- The number of the round that is open in step j.
  abbrev pub open-round : ℕ → ℕ
  open-round j = (step_round plan (suc j)).0

  -- The root cell after conversion.
  pub root-read : (w : Width) (x : ℕ) (c : List ℕ) → x < plan.span → read plan (root_only w plan.n x c) (plan.dealer ∷ []) ≡ x
  unfolding read cell_at place level_start level_size rank root_only
  root-read w x c small = value_same plan x small

  pub record Inv (j : ℕ) : Type 0 where
    -- lists hold faulty boards only
    pub lists : (i : ℕ) → keeper s i ≡ true → T.Sub plan.n (list_of (at s a j i).rec.list) (boards_of F)
    -- in the levels that are filled, a healthy board's child has that board's cell
    pub deliver : (i q e : ℕ) (α : Label) → keeper s i ≡ true → keeper s q ≡ true → Memᴰ α (inner plan i (suc e)) → occurs q α ≡ false
        → suc (suc e) < open-round j → read plan (at s a j i).cells (q ∷ α) ≡ read plan (at s a j q).cells α
    -- a healthy dealer's value is every root
    pub root : 2 ≤ open-round j → member plan.dealer F ≡ false → (i : ℕ) → keeper s i ≡ true
        → read plan (at s a j i).cells (plan.dealer ∷ []) ≡ s.word

  module _ (j : ℕ) (l : j < steps plan) (I : Inv j) where
    default_below : default plan < plan.span
    default_below = plan-default plan sound.accepted

    pub dealer-below : plan.dealer < plan.n
    dealer-below = (plan-facts plan sound.accepted).dealer-below

    -- a healthy board is not listed
    unlisted : (i q : ℕ) → keeper s i ≡ true → q < plan.n → member q F ≡ false → member q (as_set (at s a j i).rec.list) ≡ false
    unlisted i q ki lq f = is_false (member q (as_set (at s a j i).rec.list)) (λ t. clash (I.lists i ki q lq t) f)

    -- The healthy children of a healthy board's node have one value.
    minds : (i e : ℕ) (ki : keeper s i ≡ true) (α : Label) → open-round j ≡ suc (suc e) → Memᴰ α (inner plan i (suc e)) → member (last α) F ≡ false
        → (v : ℕ) × (v < plan.span) × ((c : ℕ) → T.Healthy (inst plan) (boards_of F) c → occurs c α ≡ false → read plan (stored-cells s a sound j i ki l) (c ∷ α) ≡ v)
    unfolding last occurs
    minds i zero ki α ek m out =
        let z : α ≡ plan.dealer ∷ [] = node-root plan i α (inner-inv plan i 1 α m).0 in
        let f : member plan.dealer F ≡ false = subst (λ x. member (last x) F ≡ false) z out in (
          s.word,
          sound.word_below f,
          λ c C a-out.
              let kc = healthy-keeper s a sound c C in
              stored-healthy s a sound j i ki l c 0 α kc (unlisted i c ki C.below C.correct) ek m a-out
              ∙ ap (read plan (at s a j c).cells) z ∙ I.root (omega arith) f c kc,
        )
    minds i (suc e) ki α ek m out =
        let (β, w, (r, x, lr, r-out)) = node-inv plan i e α (inner-inv plan i (suc (suc e)) α m).0 in
        let f : member r F ≡ false = subst (λ y. member (last y) F ≡ false) x out in
        let on = label-dealer plan.n plan.dealer (suc e) β (node-label plan i (suc e) β (inner-inv plan i (suc e) β w).0) in
        let nd : r ≢ plan.dealer = λ y. clash on (subst (λ q. occurs q β ≡ false) y r-out) in
        let kr = healthy-keeper s a sound r (record { below = lr; correct = f; keeper = nd }) in (
          read plan (at s a j r).cells β,
          read_small plan default_below (at s a j r).cells β,
          λ c C a-out.
              let kc = healthy-keeper s a sound c C in
              stored-healthy s a sound j i ki l c (suc e) α kc (unlisted i c ki C.below C.correct) ek m a-out
              ∙ ap (read plan (at s a j c).cells) x
              ∙ I.deliver c r e β kc kr (inner-moves plan i c (suc e) β w (or_r (eqb c r) (occurs c β) (subst (λ y. occurs c y ≡ false) x a-out))) r-out (omega arith),
        )

    -- The round is 1, or there is a level before it.
    by-round {ℓ} : {C : Type ℓ} → (open-round j ≡ 1 → C) → ((e : ℕ) → open-round j ≡ suc (suc e) → C) → (i : ℕ) → keeper s i ≡ true → C
    by-round one more i ki =
        let low = (position s a sound j i ki (standing s a sound j i ki l) l).round-low in
        cases (eqb (open-round j) 1)
        (λ x. one (eqb-true (open-round j) 1 x))
        (λ x. let ne : open-round j ≢ 1 = eqb-false (open-round j) 1 x in more (open-round j - 2) (omega arith))

    pub room : (i : ℕ) (ki : keeper s i ≡ true) → cell_count plan.n ≤ length (stored-cells s a sound j i ki l)
    room i ki =
        let t = st s a sound j i ki l in
        rw (filled-length (rec s a sound j i ki l) (rec-good s a sound j i ki l) refl (told s a i j) (at s a j i).cells t.room) t.room

    -- Rule G lists faulty boards only.
    pub scan-lists : (i : ℕ) (ki : keeper s i ≡ true) → T.Sub plan.n (list_of (scanned s a sound j i ki l).list) (boards_of F)
    scan-lists i ki =
        let k = open-round j - 1 in
        let high = (position s a sound j i ki (standing s a sound j i ki l) l).round-high in
        scan-sound plan dealer-below (most-boards s a sound) i (step_run plan (suc j)) (step_round plan (suc j)) k F (good s a sound) (inner plan i k)
        (record { list = (at s a j i).rec.list; cells = stored-cells s a sound j i ki l })
        {j = (rounds plan).0 - k}
        (λ α m. mem-node plan i k ((rounds plan).0 - k) α (inner-inv plan i k α m).0 (omega arith))
        (λ _ m. m) (room i ki)
        (λ α m out. by-round
        (λ one. absurd (no_node plan i α (inner-inv plan i 0 α (subst (λ x. Memᴰ α (inner plan i x)) (let z : k ≡ 0 = omega arith in z) m)).0))
        (λ e ek. minds i e ki α ek (subst (λ x. Memᴰ α (inner plan i x)) (let z : k ≡ suc e = omega arith in z) m) out)
        i ki)
        (I.lists i ki)

    -- What rule G leaves of a healthy board's cell.
    scan-keeps : (i q : ℕ) (ki : keeper s i ≡ true) (b : ℕ) (α : Label) → q < plan.n → member q F ≡ false → IsLabel plan dealer-below b (q ∷ α)
        → read plan (scanned s a sound j i ki l).cells (q ∷ α) ≡ read plan (stored-cells s a sound j i ki l) (q ∷ α)
    unfolding last
    scan-keeps i q ki b α lq f w =
        ⊎_elim (λ x. x) (λ x. clash (scan-lists i ki q lq x.1) f)
        (scan-cell plan dealer-below (most-boards s a sound) i (step_run plan (suc j)) (step_round plan (suc j)) (open-round j - 1) (inner plan i (open-round j - 1))
        (record { list = (at s a j i).rec.list; cells = stored-cells s a sound j i ki l }) b (q ∷ α) (λ _ m. m) w (room i ki))

    -- After rule G a healthy board's child has that board's cell, in this level too.
    pub scan-deliver : (i q e : ℕ) (α : Label) (ki : keeper s i ≡ true) (kq : keeper s q ≡ true) → Memᴰ α (inner plan i (suc e)) → occurs q α ≡ false
        → suc (suc e) ≤ open-round j → read plan (scanned s a sound j i ki l).cells (q ∷ α) ≡ read plan (scanned s a sound j q kq l).cells α
    scan-deliver i q e α ki kq m out h =
        let (lq, f, nq) = keeper-facts s a sound q kq in
        let here = node-label plan i (suc e) α (inner-inv plan i (suc e) α m).0 in
        let child-here : IsLabel plan dealer-below (suc (suc e)) (q ∷ α) = node-label plan i (suc (suc e)) (q ∷ α) (node-has plan i e α q m lq out) in
        let own = scanned-other s a sound j q kq l (suc e) α here (let z : suc e ≢ open-round j = omega arith in z) in
        cases (eqb (suc (suc e)) (open-round j))
        (λ x. let z = eqb-true (suc (suc e)) (open-round j) x in
        scan-keeps i q ki (suc (suc e)) α lq f child-here
        ∙ stored-healthy s a sound j i ki l q e α kq (unlisted i q ki lq f) (sym z) m out ∙ sym own)
        (λ x. let ne : suc (suc e) ≢ open-round j = eqb-false (suc (suc e)) (open-round j) x in
        scanned-other s a sound j i ki l (suc (suc e)) (q ∷ α) child-here ne ∙ I.deliver i q e α ki kq m out (omega arith) ∙ sym own)

    -- In round 1 the dealer sends one value.
    sent-dealer : (i : ℕ) → open-round j ≡ 1 → sent plan plan.dealer i (step_round plan (suc j)) ≡ [] ∷ []
    unfolding sent
    sent-dealer i one = rw (eq-eqb (open-round j) 1 one, eq-eqb plan.dealer plan.dealer refl)

    dealer-due : (i : ℕ) → keeper s i ≡ true → open-round j ≡ 1 → due plan plan.dealer i (step_round plan (suc j)) ≡ true
    unfolding due
    dealer-due i ki one =
        let (li, fi, ni) = keeper-facts s a sound i ki in
        rw (
          sent-dealer i one,
          lt-ltb plan.dealer plan.n dealer-below,
          lt-ltb i plan.n li,
          ne_eqb plan.dealer i (λ z. ni (sym z)),
          ne_eqb i plan.dealer ni,
        )

    -- A healthy dealer's value is every root, after rule G too.
    pub scan-root : member plan.dealer F ≡ false → (i : ℕ) (ki : keeper s i ≡ true) → read plan (scanned s a sound j i ki l).cells (plan.dealer ∷ []) ≡ s.word
    scan-root f i ki =
        let (li, fi, ni) = keeper-facts s a sound i ki in
        let root-label = root-has plan.n plan.dealer in
        by-round
        (λ one. let e = sent-dealer i one in
        scan-keeps i plan.dealer ki 1 [] dealer-below f root-label
        ∙ delivered (rec s a sound j i ki l) (rec-good s a sound j i ki l) refl (told s a i j) (at s a j i).cells (st s a sound j i ki l).room
        plan.dealer [] dealer-below (subst (λ αs. Memᴰ [] αs) (sym e) (Memᴰ.head refl)) (λ _. s.word) (λ z. ni (sym z)) (dealer-due i ki one)
        (unlisted i plan.dealer ki dealer-below f)
        (told-word s a sound j i f ∙ ap (λ αs. some (map (λ _. s.word) αs)) (sym e)) (sound.word_below f))
        (λ e ek. scanned-other s a sound j i ki l 1 (plan.dealer ∷ []) root-label (let z : 1 ≢ open-round j = omega arith in z) ∙ I.root (omega arith) f i ki)
        i ki

    -- The cells of all boards after rule G.
    abbrev pub scan-of : ℕ → Scan
    scan-of i = gather (take_all (told s a i j) (at s a j i) plan.n)

    pub scan-is : (i : ℕ) (ki : keeper s i ≡ true) → scan-of i ≡ scanned s a sound j i ki l
    unfolding gather filled stored
    scan-is i ki = ap gather (heard_all s a sound j i ki (st s a sound j i ki l) l)

    abbrev pub cell-of : ℕ → Label → ℕ
    cell-of i α = read plan (scan-of i).cells α

    pub cell-deliver : (i q e : ℕ) (α : Label) → keeper s i ≡ true → keeper s q ≡ true → Memᴰ α (inner plan i (suc e)) → occurs q α ≡ false
        → suc (suc e) ≤ open-round j → cell-of i (q ∷ α) ≡ cell-of q α
    cell-deliver i q e α ki kq m out h =
        ap (λ x. read plan x.cells (q ∷ α)) (scan-is i ki) ∙ scan-deliver i q e α ki kq m out h ∙ sym (ap (λ x. read plan x.cells α) (scan-is q kq))

    -- At the end of a run.
    module _ (end : open-round j ≡ (rounds plan).0) where
      pub flow : Flow (inst plan) (boards_of F) cell-of
      flow = record {
        small = λ {p = i} {k} {α} H N. read_small plan default_below (scan-of i).cells α;
        deliver = λ {p = i} {q} {k} {α} H K N inn out. go i q k α H K N inn out;
      }
        where
          go : (i q k : ℕ) (α : Label) → T.Healthy (inst plan) (boards_of F) i → T.Healthy (inst plan) (boards_of F) q → T.Node (inst plan) i (suc k) α
              → internal plan i α ≡ true → occurs q α ≡ false → cell-of i (q ∷ α) ≡ cell-of q α
          go i q k α H K N inn out =
              let level = node-level plan N in
              let m = inner-has plan i (length α) α (node-mem plan N) inn in
              let some_level : length α ≡ suc (length α - 1) = node-size plan N in
              cell-deliver i q (length α - 1) α (healthy-keeper s a sound i H) (healthy-keeper s a sound q K)
              (subst (λ x. Memᴰ α (inner plan i x)) some_level m) out (omega arith)

      -- What a healthy board's node holds is the same for all healthy boards that are not on it.
      held : (i e : ℕ) (α : Label) → keeper s i ≡ true → Memᴰ α (inner plan i (suc e)) → suc e ≤ (rounds plan).0 - 1 → member (last α) F ≡ false
          → (v : ℕ) × (v < plan.span) × ((c : ℕ) → keeper s c ≡ true → occurs c α ≡ false → cell-of c α ≡ v)
      unfolding last occurs
      held i zero α ki m h out =
          let z : α ≡ plan.dealer ∷ [] = node-root plan i α (inner-inv plan i 1 α m).0 in
          let f : member plan.dealer F ≡ false = subst (λ x. member (last x) F ≡ false) z out in (
            s.word,
            sound.word_below f,
            λ c kc _. ap (cell-of c) z ∙ ap (λ x. read plan x.cells (plan.dealer ∷ [])) (scan-is c kc) ∙ scan-root f c kc,
          )
      held i (suc e) α ki m h out =
          let (β, w, (r, x, lr, r-out)) = node-inv plan i e α (inner-inv plan i (suc (suc e)) α m).0 in
          let f : member r F ≡ false = subst (λ y. member (last y) F ≡ false) x out in
          let on = label-dealer plan.n plan.dealer (suc e) β (node-label plan i (suc e) β (inner-inv plan i (suc e) β w).0) in
          let nd : r ≢ plan.dealer = λ y. clash on (subst (λ q. occurs q β ≡ false) y r-out) in
          let kr = healthy-keeper s a sound r (record { below = lr; correct = f; keeper = nd }) in (
            cell-of r β,
            read_small plan default_below (scan-of r).cells β,
            λ c kc a-out.
                let above : occurs c β ≡ false = or_r (eqb c r) (occurs c β) (subst (λ y. occurs c y ≡ false) x a-out) in
                ap (cell-of c) x ∙ cell-deliver c r e β kc kr (inner-moves plan i c (suc e) β w above) r-out (omega arith),
          )

      -- Rule C lists faulty boards only.
      pub convert-lists : (i : ℕ) → keeper s i ≡ true
          → T.Sub plan.n (list_of (detect_levels plan i (step_run plan (suc j)) (step_round plan (suc j)) (scan-of i).cells ((rounds plan).0 - 1) (scan-of i).list)) (boards_of F)
      unfolding by_resolving
      convert-lists i ki =
          levels_sound plan i (step_run plan (suc j)) (step_round plan (suc j)) (scan-of i).cells F (good s a sound) ((rounds plan).0 - 1) (scan-of i).list
          (λ k α low high m. at_level k α low high m)
          (subst (λ x. T.Sub plan.n (list_of x.list) (boards_of F)) (sym (scan-is i ki)) (scan-lists i ki))
        where
          at_level : (k : ℕ) (α : Label) → 1 ≤ k → k ≤ (rounds plan).0 - 1 → Memᴰ α (inner plan i k)
              → (left : ℕ) × T.Node (inst plan) i left α × Minds plan i (step_run plan (suc j)) (step_round plan (suc j)) (scan-of i).cells F (good s a sound) α
          at_level zero α low high m = absurd (omega arith)
          at_level (suc e) α low high m =
              let (w, inn) = inner-inv plan i (suc e) α m in
              let size = node-length plan i (suc e) α w in
              let left = (rounds plan).0 - suc (length α) in
              let N : T.Node (inst plan) i (suc left) α = mem-node plan i (suc e) (suc left) α w (omega arith) in (
                suc left,
                N,
                λ out.
                    let (v, lv, u) = held i e α ki m high out in (
                      v,
                      lv,
                      λ c C a-out. unfold by_resolving in
                          resolve-inst plan i (scan-of i).cells left (c ∷ α)
                          ∙ healthy-node (good s a sound) flow C i (healthy s a sound i ki) (child N inn C.below a-out)
                          ∙ ap some (u c (healthy-keeper s a sound c C) a-out),
                    ),
              )

      -- A healthy dealer's value is the resolved root.
      pub convert-root : member plan.dealer F ≡ false → (i : ℕ) → keeper s i ≡ true → resolve_root plan i (scan-of i).cells ≡ s.word
      unfolding resolve_root
      convert-root f i ki =
          ap (λ o. get_or o (default plan))
          (resolve-inst plan i (scan-of i).cells ((rounds plan).0 - 1) (plan.dealer ∷ [])
          ∙ uniform (good s a sound) flow ((rounds plan).0 - 1) s.word (plan.dealer ∷ [])
          (λ q Q N. ap (λ x. read plan x.cells (plan.dealer ∷ [])) (scan-is q (healthy-keeper s a sound q Q)) ∙ scan-root f q (healthy-keeper s a sound q Q))
          i (healthy s a sound i ki) root)

    -- A board after the step.
    module _ (i : ℕ) (ki : keeper s i ≡ true) where
      abbrev ready-board : Board
      ready-board = ready s a sound j i ki (st s a sound j i ki l) l

      gathered : gather ready-board ≡ scan-of i
      gathered = ap gather (sym (heard_all s a sound j i ki (st s a sound j i ki l) l))

      pub within-run : open-round j < (rounds plan).0 → at s a (suc j) i ≡ next_round ready-board (scan-of i)
      within-run h =
          after-step s a sound j i ki (st s a sound j i ki l) l ∙ close-next s a sound j i ki (st s a sound j i ki l) l h
          ∙ ap (next_round ready-board) gathered

      pub run_ends : (rounds plan).0 ≤ open-round j → at s a (suc j) i ≡ convert ready-board (scan-of i)
      run_ends h =
          after-step s a sound j i ki (st s a sound j i ki l) l ∙ close-last s a sound j i ki (st s a sound j i ki l) l h
          ∙ ap (convert ready-board) gathered

      high : open-round j ≤ (rounds plan).0
      high = (position s a sound j i ki (st s a sound j i ki l) l).round-high

      -- Its list holds faulty boards only.
      pub lists-next : T.Sub plan.n (list_of (at s a (suc j) i).rec.list) (boards_of F)
      unfolding next_round convert run_ended
      lists-next =
          cases (ltb (open-round j) (rounds plan).0)
          (λ e. subst (λ b. T.Sub plan.n (list_of b.rec.list) (boards_of F)) (sym (within-run (ltb-true (open-round j) (rounds plan).0 e)))
          (subst (λ x. T.Sub plan.n (list_of x.list) (boards_of F)) (sym (scan-is i ki)) (scan-lists i ki)))
          (λ e. let ge = ltb-false (open-round j) (rounds plan).0 e in
          subst (λ b. T.Sub plan.n (list_of b.rec.list) (boards_of F)) (sym (run_ends ge)) (convert-lists (omega (arith, high)) i ki))

      -- The round that is open next.
      next-open : suc j < steps plan → (at s a (suc j) i).rec.round.0 ≡ open-round (suc j)
      next-open more = ap (λ (r : Record). r.round.0) (standing s a sound (suc j) i ki more).shape

    -- The invariant after the step.
    pub inv-next : suc j < steps plan → Inv (suc j)
    unfolding next_round convert run_ended
    inv-next more = record {
      lists = λ i ki. lists-next i ki;
      deliver = λ i q e α ki kq m out h.
          cases (ltb (open-round j) (rounds plan).0)
          (λ x. let lt = ltb-true (open-round j) (rounds plan).0 x in
          let next : open-round (suc j) ≡ open-round j + 1 = sym (next-open i ki more) ∙ ap (λ (b : Board). b.rec.round.0) (within-run i ki lt) in
          ap (λ (b : Board). read plan b.cells (q ∷ α)) (within-run i ki lt) ∙ cell-deliver i q e α ki kq m out (omega arith)
          ∙ sym (ap (λ (b : Board). read plan b.cells α) (within-run q kq lt)))
          (λ x. let ge = ltb-false (open-round j) (rounds plan).0 x in
          let two : open-round (suc j) ≡ 2 = second i ki more ge in
          absurd (let y : ⊥ = omega arith in y));
      root = λ h f i ki.
          cases (ltb (open-round j) (rounds plan).0)
          (λ x. let lt = ltb-true (open-round j) (rounds plan).0 x in
          ap (λ (b : Board). read plan b.cells (plan.dealer ∷ [])) (within-run i ki lt)
          ∙ ap (λ x. read plan x.cells (plan.dealer ∷ [])) (scan-is i ki) ∙ scan-root f i ki)
          (λ x. let ge = ltb-false (open-round j) (rounds plan).0 x in
          ap (λ (b : Board). read plan b.cells (plan.dealer ∷ [])) (run_ends i ki ge)
          ∙ root-read (at s a j i).width (resolve_root plan i (scan-of i).cells) (scan-of i).cells (root-small plan default_below i (scan-of i).cells)
          ∙ convert-root (omega (arith, high i ki)) f i ki);
    }
      where
        second : (i : ℕ) (ki : keeper s i ≡ true) → suc j < steps plan → (rounds plan).0 ≤ open-round j → open-round (suc j) ≡ 2
        second i ki more ge =
            let x = st s a sound j i ki l in
            let end : open-round j ≡ (rounds plan).0 = omega (arith, high i ki) in
            let turn = next-run plan (step_run plan (suc j)) (step_round plan (suc j)) sound.accepted (position s a sound j i ki x l) end (more-runs s a sound j i ki x l more end) in
            ap (λ z. (step_round plan (suc z)).0) (sym (number s a sound j i ki x l)) ∙ ap (λ (k : Round). k.0) turn.1

  -- At the start lists are empty.
  pub inv-start : 0 < steps plan → Inv 0
  inv-start l = record {
    lists = λ i ki q lq t. clash (subst (λ x. member q (as_set x.list) ≡ true) (fresh i ki) t) (unfold fresh_record in ap (member q) none-listed ∙ member-empty q);
    deliver = λ i q e α ki kq m out h. absurd (let y : ⊥ = omega (arith, one i ki) in y);
    root = λ h f i ki. absurd (let y : ⊥ = omega (arith, one i ki) in y);
  }
    where
      fresh : (i : ℕ) → keeper s i ≡ true → (at s a 0 i).rec ≡ fresh_record plan i
      fresh i ki = ap (λ (b : Board). b.rec) (at-start s a i (keeper-facts s a sound i ki).0 ∙ begun-shape s a sound i ki)

      one : (i : ℕ) → keeper s i ≡ true → open-round 0 ≡ 1
      one i ki =
          sym (ap (λ (r : Record). r.round.0) (standing s a sound 0 i ki l).shape) ∙ ap (λ (r : Record). r.round.0) (fresh i ki) ∙ unfold fresh_record in refl

  pub inv : (j : ℕ) → j < steps plan → Inv j
  inv zero l = inv-start l
  inv (suc j) l = inv-next j (omega arith) (inv j (omega arith)) l

  -- 003, section 3.2: every list of a healthy board lies within F, after every step.
  pub lists-within : (j i : ℕ) → j ≤ steps plan → keeper s i ≡ true → T.Sub plan.n (list_of (at s a j i).rec.list) (boards_of F)
  lists-within zero i h ki = (inv-start (some-step i ki)).lists i ki
    where
      some-step : (i : ℕ) → keeper s i ≡ true → 0 < steps plan
      some-step i ki = unfold steps in omega (arith, rounds-pos plan)
  lists-within (suc j) i h ki = lists-next j h (inv j h) i ki
