use Rattle.std.proofs.Common.{◌≡◌, Option, Some, None, Result, Ok, Err, refl, sym, ap, ◌∙◌}
use Rattle.std.specs.Prelude.{IfOk}
use Rattle.serde_json.specs.Data.{Data}
use Rattle.serde_json.specs.Read.{read}
use Rattle.net_base.specs.Reading.{Gives, need}
use Rattle.flat_json.specs.Trees.{top_of}
use Rattle.flat_json.specs.declared.fault.JsonFault.{JsonFault}
use Rattle.flat_json.specs.declared.fault.JsonFault.TheVariants.{NotJson, Memory}
use Rattle.flat_json.specs.declared.tree.Tree.{Tree}
use Rattle.flat_json.proofs.JsonTree.{tree_in-none, tree_in-utf8}
use Rattle.flat_json.proofs.parse.parse_tree.Goals as goal

-- what is read of a text that is one value, or none
gives : (d : Option Data) (r : Result Tree JsonFault) → IfOk r (λ t. d ≡ Some (top_of t)) → (r ≡ Err NotJson → d ≡ None) → Gives Memory top_of r (need d NotJson)
gives d (Ok t) ok err = rw ok refl
gives d (Err NotJson) ok err = λ _. rw (err refl) refl
gives d (Err Memory) ok err = λ h. absurd (h refl)

pub returns-in_default : goal.returns-in_default
returns-in_default c = λ _. rw (tree_in-none c.args.bytes.now (λ utf8. absurd (c.in_default.ensures.cases.0 utf8))) refl

pub returns : goal.returns
returns c =
    let text = c.in-Ok.ensures.cases in
    rw (tree_in-utf8 c.args.bytes.now text.1 ∙ ap read (sym text.0)) (gives _ _ c.read_whole.ensures.ok c.read_whole.ensures.err)
