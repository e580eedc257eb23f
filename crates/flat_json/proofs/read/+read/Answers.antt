use Rattle.std.proofs.Common.{◌≡◌, ◌-◌, ◌<◌, [], ◌∷◌, length, map, Some, None, refl, sym, subst, ap, ap₂, ◌∙◌, arith}
use Rattle.std.proofs.lemmas.List.{map-append, length-map, length_push}
use Rattle.json.specs.Token.{Token}
use Rattle.json.specs.Json.{parse_map, after_end_array, read_key, items, members, value}
use Rattle.json.specs.Reads.{token_of}
use Rattle.json.proofs.Grammar.{value_is, value-begin_array, value-begin_object, read_key-shorter}
use Rattle.serde_json.specs.Data.{array, object, no_members}
use Rattle.serde_json.specs.Read.{of_json, of_items, of_members, converted}
use Rattle.serde_json.specs.View.{items_of}
use Rattle.flat_json.proofs.Reading.{converted-array, converted-object, item_read, item_refused, items_over, member_read, member_refused, key_refused, members_over, none_before}
use Rattle.flat_json.specs.Nodes.{with_members}
use Rattle.flat_json.specs.Numbers.{num_of}
use Rattle.flat_json.specs.Stores.{data_in, Keeps}
use Rattle.flat_json.proofs.Collected.{items_before, items_before-no_items, one_more_item, one_more_member}
use Rattle.flat_json.proofs.Growth.{keeps_nothing, keeps_leaf, keeps_one_more, one_more_data}
use Rattle.flat_json.proofs.Leaves.{null_read, boolean_read, string_read, number_read, number_refused}
use Rattle.flat_json.proofs.read.+read.Goals as goal

pub read-returns-in_err-token-clause-err : goal.read-returns-in_err-token-clause-err
read-returns-in_err-token-clause-err t c refused =
    let empty : c.args.reader.now ≡ [] = grind arith in
    ap (converted of_json) (ap (value c.args.depth) empty ∙ value_is c.args.depth [])

pub read-returns-then-depth-eq0-clause-err : goal.read-returns-then-depth-eq0-clause-err
unfolding value
read-returns-then-depth-eq0-clause-err t c never =
    let first : c.args.reader.now ≡ token_of c.in_ok-token.token ∷ c.next.new.self = grind arith in
    let none : c.args.depth ≡ 0 = omega arith in
    ap (converted of_json) (ap₂ value none (first ∙ ap (λ k. token_of k ∷ c.next.new.self) c.in-BeginArray.is))

pub read-returns-then-depth-eq0-2-clause-err : goal.read-returns-then-depth-eq0-2-clause-err
unfolding value
read-returns-then-depth-eq0-2-clause-err t c never =
    let first : c.args.reader.now ≡ token_of c.in_ok-token.token ∷ c.next.new.self = grind arith in
    let none : c.args.depth ≡ 0 = omega arith in
    ap (converted of_json) (ap₂ value none (first ∙ ap (λ k. token_of k ∷ c.next.new.self) c.in-BeginObject.is))

pub read-returns-in_err-items-in-BeginArray-clause-err : goal.read-returns-in_err-items-in-BeginArray-clause-err
read-returns-in_err-items-in-BeginArray-clause-err t c refused =
    let first : c.args.reader.now ≡ token_of c.in_ok-token.token ∷ c.next.new.self = grind arith in
    let opened = ap (converted of_json) (ap (value c.args.depth) (first ∙ ap (λ k. token_of k ∷ c.next.new.self) c.in-BeginArray.is) ∙ value-begin_array c.args.depth c.next.new.self (omega arith)) ∙ converted-array (items (value (c.args.depth - 1)) (length c.next.new.self) c.next.new.self) in
    opened ∙ ap (parse_map array) (c.read_items.ensures.err (grind arith))

pub read-returns-in_err-members-in-BeginObject-clause-err : goal.read-returns-in_err-members-in-BeginObject-clause-err
read-returns-in_err-members-in-BeginObject-clause-err t c refused =
    let first : c.args.reader.now ≡ token_of c.in_ok-token.token ∷ c.next.new.self = grind arith in
    let opened = ap (converted of_json) (ap (value c.args.depth) (first ∙ ap (λ k. token_of k ∷ c.next.new.self) c.in-BeginObject.is) ∙ value-begin_object c.args.depth c.next.new.self (omega arith)) ∙ converted-object (members (value (c.args.depth - 1)) (length c.next.new.self) c.next.new.self) in
    opened ∙ ap (parse_map object) (c.read_members.ensures.err (grind arith))

pub read-returns-in_ok-add_text-in-String-clause-ok : goal.read-returns-in_ok-add_text-in-String-clause-ok
read-returns-in_ok-add_text-in-String-clause-ok t c =
    let first : c.args.reader.now ≡ token_of c.in_ok-token.token ∷ c.next.new.self = grind arith in
    let is : c.args.reader.now ≡ Token.string c.in-String.text.now ∷ c.next.new.self = grind (arith, first) in
    string_read c.add_text.new.store c.args.depth c.args.reader.now c.next.new.self c.in-String.text.now _ is c.in_ok-add_text-in-String.ensures.means

pub read-returns-in-Some-clause-kept : goal.read-returns-in-Some-clause-kept
read-returns-in-Some-clause-kept t c = keeps_leaf c.args.store.now _ c.requires c.node_of.ensures.within

pub read-returns-in-Some-clause-ok : goal.read-returns-in-Some-clause-ok
unfolding data_in
read-returns-in-Some-clause-ok t c =
    let first : c.args.reader.now ≡ token_of c.in_ok-token.token ∷ c.next.new.self = grind arith in
    let is : c.args.reader.now ≡ Token.number c.in-Number.text.now ∷ c.next.new.self = grind (arith, first) in
    number_read c.args.store.now c.args.depth c.args.reader.now c.next.new.self c.in-Number.text.now (num_of c.in-Some.number) c.node_of.result is (sym c.in-Some.ensures) (c.node_of.ensures.means _ _)

pub read-returns-in-None-clause-err : goal.read-returns-in-None-clause-err
read-returns-in-None-clause-err t c refused =
    let first : c.args.reader.now ≡ token_of c.in_ok-token.token ∷ c.next.new.self = grind arith in
    let is : c.args.reader.now ≡ Token.number c.in-Number.text.now ∷ c.next.new.self = grind (arith, first) in
    number_refused c.args.store.now c.args.depth c.args.reader.now c.next.new.self c.in-Number.text.now is (sym c.in-None.ensures)

pub read-returns-in-Bool-clause-kept : goal.read-returns-in-Bool-clause-kept
read-returns-in-Bool-clause-kept t c = keeps_leaf c.args.store.now _ c.requires refl

pub read-returns-in-Bool-clause-ok : goal.read-returns-in-Bool-clause-ok
read-returns-in-Bool-clause-ok t c =
    let first : c.args.reader.now ≡ token_of c.in_ok-token.token ∷ c.next.new.self = grind arith in
    let is : c.args.reader.now ≡ Token.boolean c.in-Bool.b ∷ c.next.new.self = grind (arith, first) in
    boolean_read c.args.store.now c.args.depth c.args.reader.now c.next.new.self c.in-Bool.b is

pub read-returns-in-Null-clause-kept : goal.read-returns-in-Null-clause-kept
read-returns-in-Null-clause-kept t c = keeps_leaf c.args.store.now _ c.requires refl

pub read-returns-in-Null-clause-ok : goal.read-returns-in-Null-clause-ok
read-returns-in-Null-clause-ok t c =
    let first : c.args.reader.now ≡ token_of c.in_ok-token.token ∷ c.next.new.self = grind arith in
    let is : c.args.reader.now ≡ Token.null ∷ c.next.new.self = grind (arith, first) in
    null_read c.args.store.now c.args.depth c.args.reader.now c.next.new.self is

pub read-returns-in-EndObject-clause-err : goal.read-returns-in-EndObject-clause-err
read-returns-in-EndObject-clause-err t c refused =
    let first : c.args.reader.now ≡ token_of c.in_ok-token.token ∷ c.next.new.self = grind arith in
    let none : value c.args.depth c.args.reader.now ≡ None = rw (value_is c.args.depth c.args.reader.now, first) (grind arith) in
    ap (converted of_json) none

pub read-returns-in_ok-add_list-in-BeginArray-clause-ok : goal.read-returns-in_ok-add_list-in-BeginArray-clause-ok
read-returns-in_ok-add_list-in-BeginArray-clause-ok t c =
    let first : c.args.reader.now ≡ token_of c.in_ok-token.token ∷ c.next.new.self = grind arith in
    let opened = ap (converted of_json) (ap (value c.args.depth) (first ∙ ap (λ k. token_of k ∷ c.next.new.self) c.in-BeginArray.is) ∙ value-begin_array c.args.depth c.next.new.self (omega arith)) ∙ converted-array (items (value (c.args.depth - 1)) (length c.next.new.self) c.next.new.self) in
    let means = c.in_ok-add_list-in-BeginArray.ensures.means ∙ ap (λ l. array (items_of (map (data_in c.read_items.new.store) l))) c.deref.ensures.value in
    opened ∙ ap (parse_map array) c.in_ok-items-in-BeginArray.ensures.ok ∙ ap (λ d. Some (d, c.read_items.new.reader)) (sym means)

pub read-returns-in_ok-add_object-in-BeginObject-clause-ok : goal.read-returns-in_ok-add_object-in-BeginObject-clause-ok
read-returns-in_ok-add_object-in-BeginObject-clause-ok t c =
    let first : c.args.reader.now ≡ token_of c.in_ok-token.token ∷ c.next.new.self = grind arith in
    let opened = ap (converted of_json) (ap (value c.args.depth) (first ∙ ap (λ k. token_of k ∷ c.next.new.self) c.in-BeginObject.is) ∙ value-begin_object c.args.depth c.next.new.self (omega arith)) ∙ converted-object (members (value (c.args.depth - 1)) (length c.next.new.self) c.next.new.self) in
    opened ∙ ap (parse_map object) c.in_ok-members-in-BeginObject.ensures.ok ∙ ap (λ d. Some (d, c.read_members.new.reader)) (sym c.in_ok-add_object-in-BeginObject.ensures.means)

pub read_items-items-init : goal.read_items-items-init
read_items-items-init t c =
    let s = c.args.store.now in
    let all = converted of_items (items (value c.args.depth) (length c.args.reader.now) c.args.reader.now) in (
      length c.args.reader.now,
      omega arith,
      none_before all ∙ ap (λ vs. parse_map (items_before (map (data_in s) vs)) all) (sym c.new-found.ensures.items),
      omega arith,
      subst (Keeps s s) (sym c.new-found.ensures.items) (keeps_nothing s c.requires),
    )

pub read_items-returns-in_err-item-clause-err : goal.read_items-returns-in_err-item-clause-err
read_items-returns-in_err-item-clause-err t c refused =
    let p = value c.args.depth in
    let l = c.items in
    let n = l.invariant.0 in
    let going : (after_end_array l.reader ≡ None) × (c.take_end_array.new.self ≡ l.reader) = grind arith in
    l.invariant.2 ∙ ap (parse_map (items_before (map (data_in l.store) l.found.items))) (item_refused p n l.reader going.0 (rw (← going.1) (c.read.ensures.err (grind arith))))

pub read_items-items-preserved : goal.read_items-items-preserved
read_items-items-preserved t c =
    let p = value c.args.depth in
    let l = c.items in
    let n = l.invariant.0 in
    let found = l.found.items in
    let s = c.read.new.store in
    let going : (after_end_array l.reader ≡ None) × (c.take_end_array.new.self ≡ l.reader) = grind arith in
    let done = c.in_ok-item.ensures in
    let v = c.in_ok-item.item in
    let r = c.read.new.reader in
    let keeps = l.invariant.4 in
    let less : length r < length l.reader = rw (← going.1) done.shorter in
    let turn = item_read p n l.reader r (data_in s v) (omega (arith, l.invariant.1)) going.0 (rw (← going.1) done.ok) in
    let seen = ap (map (data_in s)) c.in_ok-push.ensures.items ∙ one_more_data l.store s found v keeps.ordered keeps.known done.kept in (
      n - 1,
      omega (arith, l.invariant.1),
      l.invariant.2 ∙ ap (parse_map (items_before (map (data_in l.store) found))) turn ∙ one_more_item (map (data_in l.store) found) (data_in s v) _
          ∙ ap (λ ds. parse_map (items_before ds) (converted of_items (items p (n - 1) r))) (sym seen),
      omega (arith, l.invariant.3),
      subst (Keeps c.args.store.now s) (sym c.in_ok-push.ensures.items) (keeps_one_more c.args.store.now l.store s found v keeps done.kept),
    )

pub read_items-returns-clause-ok : goal.read_items-returns-clause-ok
read_items-returns-clause-ok t c =
    let p = value c.args.depth in
    let l = c.items in
    let n = l.invariant.0 in
    let r = c.take_end_array.new.self in
    let ds = map (data_in l.store) l.found.items in
    l.invariant.2 ∙ ap (parse_map (items_before ds)) (items_over p n l.reader r l.invariant.1 (grind arith)) ∙ ap (λ is. Some (is, r)) (items_before-no_items ds)

pub read_members-members-init : goal.read_members-members-init
read_members-members-init t c =
    let s = c.args.store.now in
    let keys = c.new-keys.ensures.items in
    let values = c.new-values.ensures.items in
    let all = members (value c.args.depth) (length c.args.reader.now) c.args.reader.now in (
      length c.args.reader.now,
      omega arith,
      ap (λ ks. converted (λ ms. of_members ms (with_members (map (λ k. k.now) ks) (map (data_in s) c.new-values.result.items) no_members)) all) (sym keys),
      omega arith,
      subst (Keeps s s) (sym values) (keeps_nothing s c.requires),
      ap length keys ∙ sym (ap length values),
    )

pub read_members-returns-in_err-value-clause-err : goal.read_members-returns-in_err-value-clause-err
read_members-returns-in_err-value-clause-err t c refused =
    let p = value c.args.depth in
    let l = c.members in
    let n = l.invariant.0 in
    let old = with_members (map (λ k. k.now) l.keys.items) (map (data_in l.store) l.values.items) no_members in
    let k = c.in-Some.key.now in
    let s = c.next_key.new.self in
    let named : read_key l.reader ≡ Some (Some k, s) = grind arith in
    l.invariant.2 ∙ member_refused p old n k l.reader s named (c.read.ensures.err (grind arith))

pub read_members-returns-in_err-key-clause-err : goal.read_members-returns-in_err-key-clause-err
read_members-returns-in_err-key-clause-err t c refused =
    let p = value c.args.depth in
    let l = c.members in
    let n = l.invariant.0 in
    let old = with_members (map (λ k. k.now) l.keys.items) (map (data_in l.store) l.values.items) no_members in
    l.invariant.2 ∙ key_refused p old n l.reader c.in_err-key.ensures.value

pub read_members-members-preserved : goal.read_members-members-preserved
read_members-members-preserved t c =
    let p = value c.args.depth in
    let l = c.members in
    let n = l.invariant.0 in
    let keys = map (λ k. k.now) l.keys.items in
    let values = map (data_in l.store) l.values.items in
    let old = with_members keys values no_members in
    let k = c.in-Some.key.now in
    let s = c.next_key.new.self in
    let named : read_key l.reader ≡ Some (Some k, s) = grind arith in
    let done = c.in_ok-value.ensures in
    let v = c.in_ok-value.value in
    let r = c.read.new.reader in
    let b = c.read.new.store in
    let keeps = l.invariant.4 in
    let paired = l.invariant.5 in
    let less = read_key-shorter l.reader (Some k) s named in
    let lesser = done.shorter in
    let more_keys = ap (map (λ x. x.now)) c.in_ok-push.ensures.items ∙ map-append (λ x. x.now) l.keys.items (c.in-Some.key ∷ []) in
    let more_values = ap (map (data_in b)) c.in_ok-push-2.ensures.items ∙ one_more_data l.store b l.values.items v keeps.ordered keeps.known done.kept in
    let as_many : length keys ≡ length values = length-map l.keys.items (λ k. k.now) ∙ paired ∙ sym (length-map l.values.items (data_in l.store)) in
    let inserted = ap₂ (λ ks ds. with_members ks ds no_members) more_keys more_values ∙ one_more_member keys values k (data_in b v) no_members as_many in
    let key_count = ap length c.in_ok-push.ensures.items ∙ length_push l.keys.items c.in-Some.key in
    let value_count = ap length c.in_ok-push-2.ensures.items ∙ length_push l.values.items v in (
      n - 1,
      omega (arith, l.invariant.1),
      l.invariant.2 ∙ member_read p old n k l.reader s r (data_in b v) (omega (arith, l.invariant.1)) named done.ok
          ∙ ap (λ found. converted (λ ms. of_members ms found) (members p (n - 1) r)) (sym inserted),
      omega (arith, l.invariant.3),
      subst (Keeps c.args.store.now b) (sym c.in_ok-push-2.ensures.items) (keeps_one_more c.args.store.now l.store b l.values.items v keeps done.kept),
      omega (arith, paired, key_count, value_count),
    )

pub read_members-returns-clause-ok : goal.read_members-returns-clause-ok
read_members-returns-clause-ok t c =
    let p = value c.args.depth in
    let l = c.members in
    let n = l.invariant.0 in
    let old = with_members (map (λ k. k.now) l.keys.items) (map (data_in l.store) l.values.items) no_members in
    l.invariant.2 ∙ members_over p old n l.reader c.next_key.new.self l.invariant.1 (grind arith)
