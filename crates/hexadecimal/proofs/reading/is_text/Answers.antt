use Rattle.std.proofs.Common.{◌&&◌, ◌∙◌, sym, ap, length, eq-eqb, ne_eqb, rules, tests, ◌%◌}
use Rattle.std.specs.List.{list_all}
use Rattle.std.proofs.lemmas.Iterator.{YieldsList-from_slice}
use Rattle.std.proofs.lemmas.Iterator.Search.{all_from_yields_List}
use Rattle.hexadecimal.specs.Hex.{digit}
use Rattle.hexadecimal.proofs.Digits.{given, says-given, text-is}
use Rattle.hexadecimal.proofs.reading.is_text.Goals as goal

-- `is_text` meets its contract.
pub returns-then-line-eq0 : goal.returns-then-line-eq0
returns-then-line-eq0 c =
    let line = c.args.line.now in
    all_from_yields_List (λ x. given (digit x)) _ _ _ c.all.ensures.ran (YieldsList-from_slice line cc) (λ x b q k. search (rules, tests, says-given))
    ∙ sym (text-is line ∙ ap (λ b. b && list_all (λ x. given (digit x)) line) (eq-eqb _ _ c.if-line-eq0.true))

pub returns-else-line-eq0 : goal.returns-else-line-eq0
returns-else-line-eq0 c =
    let line = c.args.line.now in
    let odd = ne_eqb (length line % 2) 0 c.if-line-eq0.false in
    odd ∙ sym (text-is line ∙ ap (λ b. b && list_all (λ x. given (digit x)) line) odd)
