-- JSON trees whose compact text is read as themselves: of whole numbers, texts of UTF-8, and objects whose members stand in order.
use Rattle.std.proofs.Common.{◌≡◌, ℕ, zero, suc, ◌^◌, ◌<◌, ◌≤◌, Bool, true, false, List, [], ◌∷◌, ◌++◌, IsUtf8, Some, option_map, refl, sym, ap, subst, ◌∙◌, arith, append-nil}
use Rattle.std.proofs.lemmas.Str.{IsUtf8-append, IsUtf8-from_ascii}
use Rattle.std.proofs.lemmas.Fmt.{IsAscii-decimal}
use Rattle.json.specs.Lex.{tokens}
use Rattle.json.specs.Print.{print}
use Rattle.json.specs.Tree as tree
use Rattle.json.specs.Tree.{json_tokens, HasNumbers, ItemsHaveNumbers, MembersHaveNumbers}
use Rattle.json.proofs.Printed.Tokens.{tokens-print}
use Rattle.json.proofs.Printed.Trees.{value-json_tokens, ArePrintable-json_tokens}
use Rattle.json.proofs.Printed.Utf8.{IsUtf8-quoted, IsUtf8-are_ascii, IsUtf8-boolean}
use Rattle.json.proofs.Printed.Decimals.{IsNumber-decimal}
use Rattle.serde_json.specs.Data.{unsigned, negative, float, Data, null, boolean, number, string, array, object, Items, no_items, item, Members, no_members, member, put}
use Rattle.serde_json.specs.Read.{of_json, of_items, of_members, read, max_depth}
use Rattle.serde_json.specs.Written.{outline, items_outline, members_outline, comma_if, compact_text, items_text, members_text}
use Rattle.serde_json.proofs.Numbers.{number_of-decimal}
use Rattle.serde_json.proofs.Texts.{print-outline}
use Rattle.flat_json.specs.JsonTree.{tree_in}
use Rattle.flat_json.proofs.LineEnd.{tree_in-line_end}
use Rattle.plan_text.proofs.Order.{put_all}

-- a tree of whole numbers that fit 64 bits and of texts of UTF-8, in which each object has its members in order, and lists and objects stand in each other at most so often
abbrev mutual
  pub IsSound : ℕ → Data → Type 0
  IsSound n null = Unit {0}
  IsSound n (boolean b) = Unit {0}
  IsSound n (number (unsigned x)) = x < 2 ^ 64
  IsSound n (number (negative z)) = ⊥
  IsSound n (number (float x)) = ⊥
  IsSound n (string s) = IsUtf8 s
  IsSound zero (array ds) = ⊥
  IsSound (suc n) (array ds) = AreItems n ds
  IsSound zero (object ms) = ⊥
  IsSound (suc n) (object ms) = AreMembers n ms × (put_all ms no_members ≡ ms)

  pub AreItems : ℕ → Items → Type 0
  AreItems n no_items = Unit {0}
  AreItems n (item d ds) = IsSound n d × AreItems n ds

  pub AreMembers : ℕ → Members → Type 0
  AreMembers n no_members = Unit {0}
  AreMembers n (member k d ms) = IsUtf8 k × IsSound n d × AreMembers n ms

-- ---- its numbers are numbers of JSON

mutual
  numbers : (n : ℕ) (d : Data) → IsSound n d → HasNumbers (outline d)
  numbers n null h = tt
  numbers n (boolean b) h = tt
  numbers n (number (unsigned x)) h = IsNumber-decimal x h
  numbers n (number (negative z)) h = absurd h
  numbers n (number (float x)) h = absurd h
  numbers n (string s) h = tt
  numbers zero (array ds) h = absurd h
  numbers (suc n) (array ds) h = item_numbers n ds h
  numbers zero (object ms) h = absurd h
  numbers (suc n) (object ms) h = member_numbers n ms h.0

  item_numbers : (n : ℕ) (ds : Items) → AreItems n ds → ItemsHaveNumbers (items_outline ds)
  item_numbers n no_items h = tt
  item_numbers n (item d ds) h = (numbers n d h.0, item_numbers n ds h.1)

  member_numbers : (n : ℕ) (ms : Members) → AreMembers n ms → MembersHaveNumbers (members_outline ms)
  member_numbers n no_members h = tt
  member_numbers n (member k d ms) h = (numbers n d h.1, member_numbers n ms h.2)

-- ---- what its tokens are read as

mutual
  again : (n : ℕ) (d : Data) → IsSound n d → of_json (outline d) ≡ Some d
  again n null h = refl
  again n (boolean b) h = refl
  again n (number (unsigned x)) h = ap (option_map number) (number_of-decimal x h)
  again n (number (negative z)) h = absurd h
  again n (number (float x)) h = absurd h
  again n (string s) h = refl
  again zero (array ds) h = absurd h
  again (suc n) (array ds) h = ap (option_map array) (items_again n ds h)
  again zero (object ms) h = absurd h
  again (suc n) (object ms) h = ap (option_map object) (members_again n ms no_members h.0 ∙ ap (λ (found : Members). Some found) h.1)

  items_again : (n : ℕ) (ds : Items) → AreItems n ds → of_items (items_outline ds) ≡ Some ds
  items_again n no_items h = refl
  items_again n (item d ds) h = rw (again n d h.0, items_again n ds h.1) refl

  members_again : (n : ℕ) (ms found : Members) → AreMembers n ms → of_members (members_outline ms) found ≡ Some (put_all ms found)
  members_again n no_members found h = refl
  members_again n (member k d ms) found h = rw (again n d h.1) (members_again n ms (put k d found) h.2)

mutual
  shallow : (n : ℕ) (d : Data) → IsSound n d → tree.depth (outline d) ≤ n
  shallow n null h = omega arith
  shallow n (boolean b) h = omega arith
  shallow n (number (unsigned x)) h = omega arith
  shallow n (number (negative z)) h = absurd h
  shallow n (number (float x)) h = absurd h
  shallow n (string s) h = omega arith
  shallow zero (array ds) h = absurd h
  shallow (suc n) (array ds) h = let inside = items_shallow n ds h in omega arith
  shallow zero (object ms) h = absurd h
  shallow (suc n) (object ms) h = let inside = members_shallow n ms h.0 in omega arith

  items_shallow : (n : ℕ) (ds : Items) → AreItems n ds → tree.items_depth (items_outline ds) ≤ n
  items_shallow n no_items h = omega arith
  items_shallow n (item d ds) h = let first = shallow n d h.0 in let rest = items_shallow n ds h.1 in omega arith

  members_shallow : (n : ℕ) (ms : Members) → AreMembers n ms → tree.members_depth (members_outline ms) ≤ n
  members_shallow n no_members h = omega arith
  members_shallow n (member k d ms) h = let first = shallow n d h.1 in let rest = members_shallow n ms h.2 in omega arith

-- ---- its text is UTF-8

comma_utf8 : (later : Bool) → IsUtf8 (comma_if later)
comma_utf8 true = IsUtf8-are_ascii (44 ∷ []) refl
comma_utf8 false = IsUtf8-are_ascii [] refl

-- one byte more in front
module _ (x : ℕ) (xs : List ℕ) where
  front_utf8 : IsUtf8 (x ∷ []) → IsUtf8 xs → IsUtf8 (x ∷ xs)
  front_utf8 first rest = IsUtf8-append (x ∷ []) xs first rest

mutual
  utf8 : (n : ℕ) (d : Data) → IsSound n d → IsUtf8 (compact_text d)
  utf8 n null h = IsUtf8-are_ascii _ refl
  utf8 n (boolean b) h = IsUtf8-boolean b
  utf8 n (number (unsigned x)) h = IsUtf8-from_ascii _ (IsAscii-decimal x h)
  utf8 n (number (negative z)) h = absurd h
  utf8 n (number (float x)) h = absurd h
  utf8 n (string s) h = IsUtf8-quoted s h
  utf8 zero (array ds) h = absurd h
  utf8 (suc n) (array ds) h = front_utf8 91 _ (IsUtf8-are_ascii _ refl) (items_utf8 false n ds h)
  utf8 zero (object ms) h = absurd h
  utf8 (suc n) (object ms) h = front_utf8 123 _ (IsUtf8-are_ascii _ refl) (members_utf8 false n ms h.0)

  items_utf8 : (later : Bool) (n : ℕ) (ds : Items) → AreItems n ds → IsUtf8 (items_text later ds)
  items_utf8 later n no_items h = IsUtf8-are_ascii _ refl
  items_utf8 later n (item d ds) h = IsUtf8-append _ _ (comma_utf8 later) (IsUtf8-append _ _ (utf8 n d h.0) (items_utf8 true n ds h.1))

  members_utf8 : (later : Bool) (n : ℕ) (ms : Members) → AreMembers n ms → IsUtf8 (members_text later ms)
  members_utf8 later n no_members h = IsUtf8-are_ascii _ refl
  members_utf8 later n (member k d ms) h =
      IsUtf8-append _ _ (comma_utf8 later) (IsUtf8-append _ _ (IsUtf8-quoted k h.0)
      (front_utf8 58 _ (IsUtf8-are_ascii _ refl) (IsUtf8-append _ _ (utf8 n d h.1) (members_utf8 true n ms h.2))))

-- ---- its text with a line end is read as it

pub text_again : (n : ℕ) (d : Data) → IsSound n d → n ≤ 127 → tree_in (compact_text d ++ 10 ∷ []) ≡ Some d
text_again n d h le =
    let ts = json_tokens (outline d) in
    let printed : print ts ≡ compact_text d = print-outline d in
    let same : tokens (print ts) ≡ ts = tokens-print ts (ArePrintable-json_tokens (outline d) (numbers n d h)) in
    let found : tokens (print ts) ≡ ts ++ [] = same ∙ sym (append-nil ts) in
    let deep : tree.depth (outline d) ≤ n = shallow n d h in
    let reads : read (print ts) ≡ Some d = rw (found, value-json_tokens (outline d) max_depth [] (omega arith)) (again n d h) in
    let utf : IsUtf8 (print ts) = subst IsUtf8 (sym printed) (utf8 n d h) in
    ap (λ (s : List ℕ). tree_in (s ++ 10 ∷ [])) (sym printed) ∙ tree_in-line_end (print ts) d (ap print (sym same)) utf reads
