use Rattle.std.proofs.Common.{map, length, sym, ap, ◌∙◌}
use Rattle.script.specs.Script.{ReadAs}
use Rattle.script.specs.declared.line.Line.TheVariants.{Blank}
use Rattle.script.proofs.Reading.{read_line, read_blank, reads_once}
use Rattle.script.proofs.line.read.Goals as goal

blank_read : (c : goal.After-drop-words) → ReadAs c.args.text.now Blank
blank_read c = read_blank (λ w. w.now) c.args.text.now c.in_ok-words.words.items c.in_ok-words.ensures (ap length (sym c.deref.ensures.value) ∙ c.in_default.ensures.cases)

line_read : (c : goal.After-drop-words-2) → ReadAs c.args.text.now c.unwrap_or.result
line_read c =
    read_line c.args.text.now c.in-Some.first.now.now (map (λ w. w.now) c.in-Some.rest.now) c.said.result c.unwrap_or.result
    (sym c.in_ok-words.ensures ∙ ap (map (λ w. w.now)) (sym c.deref.ensures.value ∙ c.in-Some.ensures.cases.0)) c.said.ensures c.unwrap_or.ensures

pub returns-in_default-clause-reads : goal.returns-in_default-clause-reads
returns-in_default-clause-reads c = blank_read c

pub returns-in_default-clause-only : goal.returns-in_default-clause-only
returns-in_default-clause-only c = λ other r. reads_once c.args.text.now _ other (blank_read c) r

pub returns-clause-reads : goal.returns-clause-reads
returns-clause-reads c = line_read c

pub returns-clause-only : goal.returns-clause-only
returns-clause-only c = λ other r. reads_once c.args.text.now _ other (line_read c) r
