use Rattle.std.proofs.Common.{◌≡◌, ◌≤◌, ◌++◌, ◌∷◌, [], ℕ, List, length, vec_len, ap, ◌∙◌, arith}
use Rattle.serve_lines.proofs.KeptLaws.{kept_more, kept_full}
use Rattle.serve_lines.proofs.open_line.OpenLine.push.Goals as goal

pub returns-in_ok-push-clause-ok : goal.returns-in_ok-push-clause-ok
returns-in_ok-push-clause-ok c =
    let inside : c.self.inside.bytes.items ≡ c.args.self.now = c.self.view_is in
    c.in_ok-push.ensures.items ∙ ap (λ (l : List ℕ). l ++ c.args.byte ∷ []) inside
    ∙ kept_more 262145 c.args.self.now c.args.byte (omega (arith, ap length inside, c.self.inside.bytes.ok.0, c.len.ensures))

pub returns-else-len-le-MOST_BYTES-clause-ok : goal.returns-else-len-le-MOST_BYTES-clause-ok
returns-else-len-le-MOST_BYTES-clause-ok c =
    let inside : c.self.inside.bytes.items ≡ c.args.self.now = c.self.view_is in
    let most : vec_len c.self.inside.bytes ≤ 262145 = c.self.invariant in
    kept_full 262145 c.args.self.now c.args.byte (omega (arith, ap length inside, c.self.inside.bytes.ok.0, c.len.ensures, most))
