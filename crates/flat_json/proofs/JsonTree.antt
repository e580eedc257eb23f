-- A list in the tree, and the values that the code holds.
use Rattle.std.proofs.Common.{◌≡◌, ℕ, Bool, true, false, List, [], ◌∷◌, Option, Some, None, option_map, map, Bor, cond, refl, ap}
use Rattle.std.specs.Global.{Vec}
use Rattle.serde_json.specs.Data.{Data}
use Rattle.serde_json.specs.View.{view, items_of, items_view}
use Rattle.serde_json.specs.declared.value.Value.{Value}
use Rattle.serde_json.specs.Read.{read}
use Rattle.std.specs.Str.{IsUtf8, is_utf8}
use Rattle.std.proofs.lemmas.Str.{IsUtf8-from_is_utf8, is_utf8-from_IsUtf8}
use Rattle.flat_json.specs.JsonTree.{list_of, tree_in}

pub list_of-items_of : (ds : List Data) → list_of (items_of ds) ≡ ds
list_of-items_of [] = refl
list_of-items_of (d ∷ ds) = ap (λ es. d ∷ es) (list_of-items_of ds)

listed : (o : Option (Bor (Vec Value))) → option_map list_of (option_map (λ v. items_view v.now.items) o) ≡ option_map (λ v. map view v.now.items) o
listed None = refl
listed (Some v) = ap (λ ds. Some ds) (list_of-items_of (map view v.now.items))

-- the tree that the bytes are, in the words of `from_slice`
pub tree_in-some : (bs : List ℕ) (d : Data) → IsUtf8 bs × (read bs ≡ Some d) → tree_in bs ≡ Some d
unfolding tree_in
tree_in-some bs d h = rw (is_utf8-from_IsUtf8 bs h.0) h.1

none_by : (b : Bool) (r : Option Data) → (b ≡ true → r ≡ None) → cond b r None ≡ None
none_by true r h = h refl
none_by false r h = refl

pub tree_in-none : (bs : List ℕ) → (IsUtf8 bs → read bs ≡ None) → tree_in bs ≡ None
unfolding tree_in
tree_in-none bs h = none_by (is_utf8 bs) (read bs) (λ e. h (IsUtf8-from_is_utf8 bs e))

-- and of a text
pub tree_in-utf8 : (bs : List ℕ) → IsUtf8 bs → tree_in bs ≡ read bs
unfolding tree_in
tree_in-utf8 bs h = rw (is_utf8-from_IsUtf8 bs h) refl
