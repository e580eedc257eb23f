-- A member that is found after others were put, where there was a value for them.
use Rattle.std.proofs.Common.{◌≡◌, ℕ, true, false, List, Option, Some, None, refl, sym, subst, ◌∙◌}
use Rattle.std.specs.Str.{bytes_eq}
use Rattle.std.proofs.lemmas.Bool.{false≢true}
use Rattle.serde_json.specs.Data.{Data, Members}
use Rattle.serde_json.specs.Find.{get_member}
use Rattle.serde_json.proofs.Views.{get_member-put, get_member-put_other}
use Rattle.topology.proofs.NamedLaws.{same_bytes}
use Rattle.config_files.specs.RuleTrees.{put_some}

apart : (q k : List ℕ) → bytes_eq q k ≡ false → q ≡ k → ⊥
apart q k other same = false≢true (sym other ∙ subst (λ m. bytes_eq q m ≡ true) same (same_bytes q))

pub beside : (q k : List ℕ) (o : Option Data) (ms : Members) → bytes_eq q k ≡ false → get_member q (put_some k o ms) ≡ get_member q ms
beside q k None ms other = refl
beside q k (Some d) ms other = get_member-put_other q k d ms (apart q k other)

pub there : (k : List ℕ) (o : Option Data) (ms : Members) → get_member k ms ≡ None → get_member k (put_some k o ms) ≡ o
there k None ms none = none
there k (Some d) ms none = get_member-put k d ms
