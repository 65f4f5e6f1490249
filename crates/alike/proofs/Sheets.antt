-- Sheets with alike heads are read and played the same.
-- Assumes nothing.
use Prim.Native.Nat.{ℕ, zero, suc, ◌+◌, ◌-◌, ◌*◌, ◌/◌, ◌%◌, ◌≤◌, ◌<◌}
use mathlib.Core.Path.{◌≡◌, refl, sym, ◌∙◌, ap, subst₂}
use mathlib.Core.Bool.{not, ◌&&◌, ◌||◌, cond}
use mathlib.Core.List.{List, [], ◌∷◌, ◌++◌}
use mathlib.Core.Option.{Option, some, none, get_or}
use native.Mathlib.Omega.{arith}
use lib.Dec.{eqb, leb}
use lib.ListN.{length, drop}
use Rattle.codec.specs.Codec.{Width}
use Rattle.sets.specs.Sets.{member}
use Rattle.sets.specs.Structure.{held_at}
use Rattle.sets.proofs.Tests.{cases}
use Rattle.schedule.specs.Schedule.{steps, step_run, step_round}
use Rattle.refusals.specs.Outcome.{taken}
use Rattle.protocol.specs.Listing.{as_set}
use Rattle.protocol.specs.Session.{Adversary, Boards, board_at, at}
use Rattle.sheet.specs.declared.head.Head.{Head}
use Rattle.sheet.specs.Sheet.{Line, line_bytes, Frame, frame_line, rises, good_frame, refused_reading, add_frame, read_frames}
use Rattle.sheet.specs.Playing.{find_frame, decoded, sheet_adversary, part, replace_part, setting, final_boards, printed, board_line, print_boards, final_cells, play_head}
use Rattle.sheet.proofs.Sheets.{frames-text, frames-wrong, frames-right}
use Rattle.alike.specs.Alike.{AlikeHeads, reading_on, AlikePlays}
use Rattle.alike.proofs.Trees.{rounds-alike, runs-alike, has-round-alike, due-alike}
use Rattle.alike.proofs.Sessions.{SameFields, kin-session, kin-fields}

module _ (g h : Head) (a : AlikeHeads g h) where
  good-frame-alike : (before : Option Frame) (bytes : List ℕ) → good_frame g before bytes ≡ good_frame h before bytes
  unfolding good_frame
  good-frame-alike before bytes = λ j.
      let f = frame_line bytes in
      (leb 4 (length bytes) && (rises before f && member f.sender (a.faulty j)))
      && ((not (member f.receiver (a.faulty j)) && has-round-alike g.plan h.plan a.plan f.run f.round j)
      && due-alike g.plan h.plan a.plan f.sender f.receiver f.round j)

  frames-alike : (before : Option Frame) (line : ℕ) (ls : List Line) → read_frames h before line ls ≡ reading_on h (read_frames g before line ls)
  unfolding read_frames refused_reading add_frame
  frames-alike before line [] = refl
  frames-alike before line (l ∷ ls) = go (λ f. frames-alike (some f) (suc line) ls) (line_bytes l) refl
    where
      go : ((f : Frame) → read_frames h (some f) (suc line) ls ≡ reading_on h (read_frames g (some f) (suc line) ls))
          → (o : Option (List ℕ)) → line_bytes l ≡ o → read_frames h before line (l ∷ ls) ≡ reading_on h (read_frames g before line (l ∷ ls))
      go ih none e = frames-text h before line l ls e ∙ sym (ap (reading_on h) (frames-text g before line l ls e))
      go ih (some bytes) e =
          cases (good_frame g before bytes)
          (λ b. frames-right h before line l ls bytes e (sym (good-frame-alike before bytes) ∙ b)
          ∙ ap (add_frame (frame_line bytes)) (ih (frame_line bytes))
          ∙ sym (ap (reading_on h) (frames-right g before line l ls bytes e b)))
          (λ b. frames-wrong h before line l ls bytes e (sym (good-frame-alike before bytes) ∙ b)
          ∙ sym (ap (reading_on h) (frames-wrong g before line l ls bytes e b)))

  steps_alike : steps g.plan ≡ steps h.plan
  unfolding steps
  steps_alike = λ j. (rounds-alike g.plan h.plan a.plan j).0 + ((runs-alike g.plan h.plan a.plan j).0 - 1) * ((rounds-alike g.plan h.plan a.plan j).0 - 1)

  adversary-alike : (w : Width) (fs : List Frame) → sheet_adversary w g fs ≡ sheet_adversary w h fs
  unfolding sheet_adversary step_run step_round
  adversary-alike w fs = λ j i k q.
      let last = (rounds-alike g.plan h.plan a.plan j).0 in
      decoded w (find_frame (record { 0 = (suc k - 2) / (last - 1) + 1 }) (record { 0 = cond (leb (suc k) 1) 1 ((suc k - 2) % (last - 1) + 2) }) q i fs)

  module _ (w : Width) (fs : List Frame) (cells : List ℕ) where
    abbrev ending : Head → Boards
    ending x = final_boards w x fs cells

    fields-alike : (i : ℕ) → i < g.plan.n → SameFields (board_at (ending g) i) (board_at (ending h) i)
    unfolding final_boards setting at
    fields-alike i l =
        let s = setting w g cells in
        let r = setting w h cells in
        let buffer : s.buffer ≡ r.buffer = λ j i. part (a.plan.n j) i cells in
        let all : (liars : Adversary) (k : ℕ) → SameFields (at s liars k i) (at r liars k i) =
        λ liars k. kin-fields g.plan h.plan _ _ (kin-session s r refl a.plan a.faulty a.word buffer liars k i l) in
        subst₂ (λ liars k. SameFields (board_at (ending g) i) (at r liars k i)) (adversary-alike w fs) steps_alike
        (all (sheet_adversary w g fs) (steps g.plan))

    line-alike : (i : ℕ) (rest : List ℕ) → i < g.plan.n → board_line w g (ending g) i rest ≡ board_line w h (ending h) i rest
    unfolding board_line held_at
    line-alike i rest l = λ j.
        let same = fields-alike i l in
        let list = as_set (same.list j) in
        let keepers = printed w i (same.decision j) list (get_or (a.hold list j) 255) rest in
        cond (member i (a.faulty j)) rest (cond (eqb i (a.plan.dealer j)) (printed w i (a.word j) 0 0 rest) keepers)

    boards-alike : (i k : ℕ) → i + k ≤ g.plan.n → print_boards w g (ending g) i k ≡ print_boards w h (ending h) i k
    unfolding print_boards
    boards-alike i zero l = refl
    boards-alike i (suc k) l =
        line-alike i (print_boards w g (ending g) (suc i) k) (omega arith) ∙ ap (board_line w h (ending h) i) (boards-alike (suc i) k (omega arith))

    cells-alike : (k : ℕ) → k ≤ g.plan.n → final_cells g (ending g) k cells ≡ final_cells h (ending h) k cells
    unfolding final_cells
    cells-alike zero l = refl
    cells-alike (suc k) l = λ j.
        let rest = cells-alike k (omega arith) j in
        let new = replace_part (a.plan.n j) k ((fields-alike k (omega arith)).cells j) rest in
        cond (member k (a.faulty j) || eqb k (a.plan.dealer j)) rest new

    text-alike : print_boards w g (ending g) 0 g.plan.n ≡ print_boards w h (ending h) 0 h.plan.n
    text-alike = boards-alike 0 g.plan.n (omega arith) ∙ ap (print_boards w h (ending h) 0) a.plan.n

    parts-alike : final_cells g (ending g) g.plan.n cells ≡ final_cells h (ending h) h.plan.n cells
    parts-alike = cells-alike g.plan.n (omega arith) ∙ ap (λ n. final_cells h (ending h) n cells) a.plan.n

  plays-alike : (w : Width) (fs : List Frame) (cells out : List ℕ) → play_head w h fs cells out ≡ play_head w g fs cells out
  unfolding play_head
  plays-alike w fs cells out =
      let over : play_head w g fs cells out ≡ play_head w h fs cells out =
      λ j. let text = text-alike w fs cells j in
      record { answer = taken (length text ∷ []); cells = parts-alike w fs cells j; out = text ++ drop (length text) out } in
      sym over

pub alike-plays : AlikePlays
alike-plays g h a = record { reading = frames-alike g h a; playing = plays-alike g h a }
