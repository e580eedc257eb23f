use Rattle.std.proofs.Common.{ℕ, List, [], ◌∷◌, ◌++◌, map, sym, ap, ◌∙◌, append_assoc}
use Rattle.net_base.specs.Lines.{text_of}
use Rattle.serve_lines.specs.Blocks.{said_line, outcome_line, block_text}
use Rattle.serve_lines.proofs.BlockLaws.{block_parts}
use Rattle.serve_lines.proofs.blocks.block_text.Goals as goal

pub returns : goal.returns
unfolding block_text
returns c =
    let said : List (List ℕ) = map (said_line c.args.net.now) c.args.said.now in
    let last : List ℕ = outcome_line c.args.net.now c.args.rounds c.args.outcome in
    c.in_ok-add_outcome.ensures ∙ append_assoc c.add_said.new.text.items last (10 ∷ [])
    ∙ ap (λ (t : List ℕ). t ++ (last ++ 10 ∷ [])) (c.in_ok-add_said.ensures ∙ ap (λ (t : List ℕ). t ++ text_of said) c.new-text.ensures.items)
    ∙ sym (block_parts said last)
