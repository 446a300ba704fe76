use Rattle.std.proofs.Common.{vec_items, ap, ◌∙◌, arith}
use Rattle.scripts.proofs.Fields.{texts_of}
use Rattle.scripts.proofs.Lines.{lines_cut, lines_all, lines_none}
use Rattle.scripts.proofs.script.lines_in.Goals as goal
use Rattle.scripts.proofs.script.lines_in.Goals.{then-n-gt0+then-index-eq0, else-n-gt0, else-n-gt0-via-then-n-gt0+else-index-eq0, else-n-gt0-via-else-n-gt0}

pub returns : goal.returns
returns c =
    let v = c.in_ok-lines.lines in
    let is = c.in_ok-lines.ensures in
    let len = c.len-n.ensures ∙ v.ok.0 in
    elim c.if-n-gt0.branch [
      | then-n-gt0+then-index-eq0 w ↦ ap (λ l. texts_of (vec_items l)) w.lines-is ∙ lines_cut (vec_items v) _ c.len-n.result is len w.index.result.now w.index.ensures _ w.truncate.ensures.items (omega arith) w.if-index-eq0.true
      | else-n-gt0 w ↦ ap (λ l. texts_of (vec_items l)) w.lines-is ∙ elim w.else-n-gt0.branch [
        | else-n-gt0-via-then-n-gt0+else-index-eq0 w' ↦ lines_all (vec_items v) _ c.len-n.result is len w'.index.result.now w'.index.ensures (omega arith) w'.if-index-eq0.false
        | else-n-gt0-via-else-n-gt0 w' ↦ lines_none (vec_items v) _ c.len-n.result is len (omega arith)
      ]
    ]
