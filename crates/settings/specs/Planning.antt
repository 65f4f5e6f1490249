-- What planning refuses, of sets, dealer, span, default and depth.
use Rattle.std.specs.Prelude.{ℕ, Bool, not, ◌&&◌, ◌||◌, cond, List, [], eqb, leb, ltb}
use Rattle.refusals.specs.Outcome.{Outcome, taken, refused, and_then}
use Rattle.admission.specs.Calls.{admitting}
use Rattle.settings.specs.declared.settings.Settings.{Settings}

-- 01: "a depth b, which is 0 or 4 to 7".
unfoldable pub is_depth : ℕ → Bool
is_depth b = eqb b 0 || (leb 4 b && leb b 7)

-- 01, 'Planning': 6, 7 and 8. 02 b: "26, a default not below m, after 7 wherever 7 is judged".
unfoldable pub judge_settings : ℕ → Settings → Outcome
judge_settings n s =
    cond (leb n s.dealer) (refused 6)
    (cond (ltb s.span 2) (refused 7)
    (cond (leb s.span s.default) (refused 26)
    (cond (not (is_depth s.depth)) (refused 8) (taken []))))

-- 01, 'Planning': "1 to 5, then 6 .. 7 .. 8", and 26 after 7.
unfoldable pub planning : ℕ → ℕ → List ℕ → Settings → Outcome
planning n count sets s = and_then (admitting n count sets) (judge_settings n s)
