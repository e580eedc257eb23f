-- Port references.
use Rattle.std.specs.Prelude.{ℕ, List, Option, option_map, option_and_then}
use Rattle.net_base.specs.Text.{cut_last, decimal_in}

-- the parts of a port reference: what stands before its last `:`, and after it a number of at most five digits
unfoldable pub reference_parts : List ℕ → Option (List ℕ × ℕ)
reference_parts text = option_and_then (λ p. option_map (λ n. (p.0, n)) (decimal_in p.1 99999)) (cut_last 58 text)
