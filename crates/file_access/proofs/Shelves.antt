-- Where a file stands on a shelf, and a shelf with one file more.
use Rattle.std.proofs.Common.{◌≡◌, ℕ, ◌+◌, ◌<◌, ◌≤◌, List, [], ◌∷◌, ◌++◌, map, length, drop, get_or, None, Some, true, false, cond, suc, zero, refl, sym, ap, ◌∙◌, add-one, arith, string_bytes, drop-cons}
use Rattle.std.specs.declared.option.Option.{Option}
use Rattle.std.specs.Prelude.{slice_get, MatchOption, is_some, unwrap_or}
use Rattle.std.specs.Option.{option_map}
use Rattle.std.specs.Str.{bytes_eq}
use Rattle.std.proofs.lemmas.Option.{slice_get_read}
use Rattle.std.proofs.lemmas.Slice.Eq.{bytes_eq-Decides}
use Rattle.file_access.specs.declared.in_memory.StoredFile.{StoredFile}
use Rattle.file_access.specs.Shelf.{file_of, found_name}
use Rattle.file_access.specs.Stored.{pair_of, left_of, name_of, IsWithin}

-- the first that has the name is the file of the name
pub found : (files : List StoredFile) (name : List ℕ) (i : ℕ) (f : StoredFile) → i < length files → f ≡ get_or files i f → bytes_eq (string_bytes f.name) name ≡ true → file_of (map pair_of (drop i files)) name ≡ file_of (map pair_of files) name → left_of files (Some i) 0 ≡ file_of (map pair_of files) name
found files name i f inside is same rest =
    let here : slice_get files i ≡ Some f = slice_get_read files (length files) i f refl inside is in
    let front : drop i files ≡ f ∷ drop (suc i) files = drop-cons files i f inside ∙ ap (λ x. x ∷ drop (suc i) files) (sym is) in
    ap (option_map (λ g. g.bytes.items)) here
    ∙ sym (ap (λ b. cond b (Some f.bytes.items) (file_of (map pair_of (drop (suc i) files)) name)) same)
    ∙ ap (λ l. file_of (map pair_of l) name) (sym front)
    ∙ rest

-- the file found has the name
pub found-name : (files : List StoredFile) (name : List ℕ) (i : ℕ) (f : StoredFile) → i < length files → f ≡ get_or files i f → bytes_eq (string_bytes f.name) name ≡ true → file_of (map pair_of (drop i files)) name ≡ file_of (map pair_of files) name → name_of files (Some i) ≡ found_name (map pair_of files) name
found-name files name i f inside is same rest =
    let here : slice_get files i ≡ Some f = slice_get_read files (length files) i f refl inside is in
    let holds : file_of (map pair_of files) name ≡ Some f.bytes.items = sym (found files name i f inside is same rest) ∙ ap (option_map (λ g. g.bytes.items)) here in
    ap (λ g. unwrap_or (option_map (λ h. string_bytes h.name) g) []) here
    ∙ (bytes_eq-Decides (string_bytes f.name) name).0 same
    ∙ sym (ap (λ o. cond (is_some o) name []) holds)

pub found-within : (files : List StoredFile) (i : ℕ) (f : StoredFile) → i < length files → f ≡ get_or files i f → IsWithin files (Some i) 0
found-within files i f inside is =
    let here : slice_get files i ≡ Some f = slice_get_read files (length files) i f refl inside is in
    rw here (omega arith)

-- one that has another name is passed
pub passed : (files : List StoredFile) (name : List ℕ) (i : ℕ) (f : StoredFile) → i < length files → f ≡ get_or files i f → bytes_eq (string_bytes f.name) name ≡ false → file_of (map pair_of (drop i files)) name ≡ file_of (map pair_of files) name → file_of (map pair_of (drop (i + 1) files)) name ≡ file_of (map pair_of files) name
passed files name i f inside is other rest =
    let front : drop i files ≡ f ∷ drop (suc i) files = drop-cons files i f inside ∙ ap (λ x. x ∷ drop (suc i) files) (sym is) in
    ap (λ n. file_of (map pair_of (drop n files)) name) (add-one i)
    ∙ sym (ap (λ b. cond b (Some f.bytes.items) (file_of (map pair_of (drop (suc i) files)) name)) other)
    ∙ ap (λ l. file_of (map pair_of l) name) (sym front)
    ∙ rest

get-front : (files more : List StoredFile) (i : ℕ) (P : StoredFile → Type 0) → MatchOption (slice_get files i) ⊥ P → slice_get (files ++ more) i ≡ slice_get files i
get-front [] more i P inside = absurd inside
get-front (f ∷ files) more zero P inside = refl
get-front (f ∷ files) more (suc i) P inside = get-front files more i P inside

-- what is left of the current file doesn't change where files come behind it
pub left-grown : (files more : List StoredFile) (current : Option ℕ) (at : ℕ) → IsWithin files current at → left_of (files ++ more) current at ≡ left_of files current at
left-grown files more None at inside = refl
left-grown files more (Some i) at inside = ap (option_map (λ f. drop at f.bytes.items)) (get-front files more i (λ f. at ≤ length f.bytes.items) inside)

-- nor does its name
pub name-grown : (files more : List StoredFile) (current : Option ℕ) (at : ℕ) → IsWithin files current at → name_of (files ++ more) current ≡ name_of files current
name-grown files more None at inside = refl
name-grown files more (Some i) at inside = ap (λ f. unwrap_or (option_map (λ g. string_bytes g.name) f) []) (get-front files more i (λ f. at ≤ length f.bytes.items) inside)
