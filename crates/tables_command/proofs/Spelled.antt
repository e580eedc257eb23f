-- The tree of tables is one whose text is read as itself.
use Rattle.std.proofs.Common.{◌≡◌, ℕ, ◌^◌, ◌<◌, List, [], ◌∷◌, ◌++◌, codes, map, Option, Some, None, Greater, IsTrue, nat_cmp, decimal, slice_get, IsUtf8, refl, ap, ◌∙◌, arith}
use Rattle.std.specs.Prelude.{◌/◌, ◌%◌, unwrap_or}
use Rattle.std.specs.List.{AllByRecursion}
use Rattle.std.specs.Cmp.Lexicographic.{slice_cmp}
use Rattle.std.proofs.lemmas.Str.{IsUtf8-append, IsUtf8-from_ascii}
use Rattle.std.proofs.lemmas.Str.Ascii.{IsAscii-nil, IsAscii-cons}
use Rattle.std.proofs.lemmas.Fmt.{IsAscii-decimal}
use Rattle.std.proofs.lemmas.Option.{unwrap_or-slice_get}
use Rattle.json.proofs.Printed.Utf8.{IsUtf8-are_ascii}
use Rattle.serde_json.specs.Data.{Data, string, Members, no_members, member, put}
use Rattle.serde_json.specs.View.{items_of}
use Rattle.net_base.specs.Blocks.{Block, IsBlock}
use Rattle.net_base.specs.Text.{address_text, prefix_text}
use Rattle.net_base.specs.declared.ids.Port.{Port}
use Rattle.net_base.proofs.MemberLaws.{each_get_or, each_weaker}
use Rattle.topology.specs.Networks.{Network, IsNetwork, IsName, is_name_byte}
use Rattle.flow_rules.specs.declared.rules.VlanTest.{VlanTest}
use Rattle.flow_rules.specs.declared.rules.VlanTest.TheVariants as test
use Rattle.flow_rules.specs.declared.rules.Rewrite.TheVariants.{Keep, Set, Strip}
use Rattle.flow_rules.specs.declared.rules.Action.{Action}
use Rattle.flow_rules.specs.declared.rules.Action.TheVariants.{Discard, Out}
use Rattle.config_files.specs.RuleTrees.{whole_tree, in_port_tree, test_tree, out_tree}
use Rattle.update_model.specs.declared.Change.{Change}
use Rattle.update_model.specs.declared.Change.TheVariants.{Insert, Delete, Replace}
use Rattle.update_model.specs.Ranges.{IsPlanPort, IsPlanVlan, IsPlanAction, IsPlanChange}
use Rattle.plan_format.specs.declared.rules.PlanRule.{PlanRule}
use Rattle.plan_text.specs.PlanText.{name_of, set_tree, strip_tree, rule_tree, word_of, plan_rule_of, change_tree}
use Rattle.plan_text.specs.TablesText.{tables_tree}
use Rattle.plan_text.proofs.ChangesAgain.{IsInRange}
use Rattle.plan_text.proofs.Order.{member_if, in_order, put_all, put_in_order, rule_in_order, rule_is, word_is}
use Rattle.tables_command.proofs.Sound.{IsSound, AreItems, AreMembers}

-- ---- texts

decimal_utf8 : (n : ℕ) → n < 2 ^ 64 → IsUtf8 (decimal n)
decimal_utf8 n h = IsUtf8-from_ascii (decimal n) (IsAscii-decimal n h)

joined : (s t : List ℕ) (x : ℕ) → IsUtf8 s → IsUtf8 (x ∷ []) → IsUtf8 t → IsUtf8 (s ++ x ∷ t)
joined s t x first mid last = IsUtf8-append s (x ∷ t) first (IsUtf8-append (x ∷ []) t mid last)

dot : IsUtf8 (46 ∷ [])
dot = IsUtf8-are_ascii (46 ∷ []) refl

address_utf8 : (a : ℕ) → a < 2 ^ 32 → IsUtf8 (address_text a)
address_utf8 a h =
    joined _ _ 46 (decimal_utf8 (a / 2 ^ 24) (omega arith)) dot (joined _ _ 46 (decimal_utf8 (a / 2 ^ 16 % 256) (omega arith)) dot
    (joined _ _ 46 (decimal_utf8 (a / 2 ^ 8 % 256) (omega arith)) dot (decimal_utf8 (a % 256) (omega arith))))

prefix_utf8 : (b : Block) → IsBlock b → IsUtf8 (prefix_text b)
prefix_utf8 b h = joined (address_text b.base) (decimal b.len) 47 (address_utf8 b.base h.base) (IsUtf8-are_ascii (47 ∷ []) refl) (decimal_utf8 b.len (omega (arith, h.length)))

small_byte : (c : ℕ) → IsTrue (is_name_byte c) → c < 128
small_byte c h = grind (arith)

byte_utf8 : (c : ℕ) → c < 128 → IsUtf8 (c ∷ [])
byte_utf8 c h = IsUtf8-from_ascii (c ∷ []) (IsAscii-cons c [] h IsAscii-nil)

name_utf8 : (name : List ℕ) → AllByRecursion (λ c. IsTrue (is_name_byte c)) name → IsUtf8 name
name_utf8 [] h = IsUtf8-are_ascii [] refl
name_utf8 (c ∷ name) h = IsUtf8-append (c ∷ []) name (byte_utf8 c (small_byte c h.0)) (name_utf8 name h.1)

-- that of a switch, or nothing where there is none
named_utf8 : (names : List (List ℕ)) (i : ℕ) → AllByRecursion IsName names → IsUtf8 (unwrap_or (slice_get names i) [])
named_utf8 names i h = rw (unwrap_or-slice_get names i []) (each_get_or IsUtf8 names i [] (each_weaker IsName IsUtf8 (λ name is. name_utf8 name is.2) names h) (IsUtf8-are_ascii [] refl))

-- ---- the members of a rule

-- where there is a value
abbrev IsSoundIf : Option Data → Type 0
IsSoundIf None = Unit {0}
IsSoundIf (Some d) = IsSound 0 d

in_port_sound : (o : Option Port) → IsPlanPort o → IsSoundIf (in_port_tree o)
in_port_sound None h = tt
in_port_sound (Some p) h = omega (arith, h.1)

test_sound : (t : VlanTest) → IsPlanVlan t → IsSoundIf (test_tree t)
test_sound test.Any h = tt
test_sound test.Untagged h = IsUtf8-are_ascii (codes "untagged") refl
test_sound (test.Id id) h = omega (arith, h.1)

out_sound : (a : Action) → IsPlanAction a → IsSound 0 (out_tree a)
out_sound Discard h = IsUtf8-are_ascii (codes "drop") refl
out_sound (Out port rewrite) h = omega (arith, h.0.1)

set_sound : (a : Action) → IsPlanAction a → IsSoundIf (set_tree a)
set_sound Discard h = tt
set_sound (Out port Keep) h = tt
set_sound (Out port (Set id)) h = omega (arith, h.1.1)
set_sound (Out port Strip) h = tt

strip_sound : (a : Action) → IsSoundIf (strip_tree a)
strip_sound Discard = tt
strip_sound (Out port Keep) = tt
strip_sound (Out port (Set id)) = tt
strip_sound (Out port Strip) = tt

if_sound : (k : List ℕ) (o : Option Data) (ms : Members) → IsUtf8 k → IsSoundIf o → AreMembers 0 ms → AreMembers 0 (member_if k o ms)
if_sound k None ms key h hs = hs
if_sound k (Some d) ms key h hs = (key, h, hs)

in_order_sound : (x y z w : Data) (a b c e : Option Data) → IsSound 0 x → IsSound 0 y → IsSound 0 z → IsSound 0 w → IsSoundIf a → IsSoundIf b → IsSoundIf c → IsSoundIf e → AreMembers 0 (in_order x y z w a b c e)
in_order_sound x y z w a b c e hx hy hz hw ha hb hc he = (
  IsUtf8-are_ascii (codes "dst") refl,
  hx,
  if_sound (codes "in_port") a _ (IsUtf8-are_ascii (codes "in_port") refl) ha (
    IsUtf8-are_ascii (codes "out") refl,
    hy,
    (
      IsUtf8-are_ascii (codes "priority") refl,
      hz,
      if_sound (codes "set") b _ (IsUtf8-are_ascii (codes "set") refl) hb (if_sound (codes "strip") c _ (IsUtf8-are_ascii (codes "strip") refl) hc (
        IsUtf8-are_ascii (codes "switch") refl,
        hw,
        if_sound (codes "vlan") e no_members (IsUtf8-are_ascii (codes "vlan") refl) he tt,
      )),
    ),
  ),
)

-- ---- what stands before the members of a rule

abbrev AreBehind : Members → Type 0
AreBehind no_members = Unit {0}
AreBehind (member k d ms) = (slice_cmp nat_cmp k (codes "do") ≡ Greater) × AreBehind ms

if_behind : (k : List ℕ) (o : Option Data) (ms : Members) → slice_cmp nat_cmp k (codes "do") ≡ Greater → AreBehind ms → AreBehind (member_if k o ms)
if_behind k None ms h hs = hs
if_behind k (Some d) ms h hs = (h, hs)

in_order_behind : (x y z w : Data) (a b c e : Option Data) → AreBehind (in_order x y z w a b c e)
in_order_behind x y z w a b c e =
    (refl, if_behind (codes "in_port") a _ refl (refl, (refl, if_behind (codes "set") b _ refl (if_behind (codes "strip") c _ refl (refl, if_behind (codes "vlan") e no_members refl tt)))))

put_behind : (v : Data) (ms found : Members) → AreBehind ms → put_all ms (member (codes "do") v found) ≡ member (codes "do") v (put_all ms found)
put_behind v no_members found h = refl
put_behind v (member k d ms) found h =
    let first = h.0 in
    rw first (put_behind v ms (put k d found) h.1)

-- ---- rules and changes

module _ (net : Network) (kept : IsNetwork net) where
  members_sound : (p : PlanRule) → IsInRange net p → AreMembers 0 (rule_in_order net p)
  members_sound p h =
      in_order_sound (string (prefix_text p.rule.key.pattern.dst)) (out_tree p.rule.action) (whole_tree p.rule.key.priority) (string (name_of net p.switch))
      (in_port_tree p.rule.key.pattern.in_port) (set_tree p.rule.action) (strip_tree p.rule.action) (test_tree p.rule.key.pattern.vlan) (prefix_utf8 p.rule.key.pattern.dst h.dst) (out_sound p.rule.action h.action) (omega (arith, h.priority_most)) (named_utf8 net.names p.switch.0 kept.name_forms)
      (in_port_sound p.rule.key.pattern.in_port h.port) (set_sound p.rule.action h.action) (strip_sound p.rule.action) (test_sound p.rule.key.pattern.vlan h.vlan)

  ordered : (p : PlanRule) → put_all (rule_in_order net p) no_members ≡ rule_in_order net p
  ordered p = (put_in_order _ _ _ _ _ _ _ _).1

  behind : (p : PlanRule) → AreBehind (rule_in_order net p)
  behind p =
      in_order_behind (string (prefix_text p.rule.key.pattern.dst)) (out_tree p.rule.action) (whole_tree p.rule.key.priority) (string (name_of net p.switch))
      (in_port_tree p.rule.key.pattern.in_port) (set_tree p.rule.action) (strip_tree p.rule.action) (test_tree p.rule.key.pattern.vlan)

  rule_sound : (p : PlanRule) → IsInRange net p → IsSound 1 (rule_tree net p)
  rule_sound p h = rw (rule_is net p) (members_sound p h, ordered p)

  word_utf8 : (c : Change) → IsUtf8 (word_of c)
  word_utf8 (Insert s r) = IsUtf8-are_ascii (codes "insert") refl
  word_utf8 (Delete s r) = IsUtf8-are_ascii (codes "delete") refl
  word_utf8 (Replace s r) = IsUtf8-are_ascii (codes "replace") refl

  change_sound : (c : Change) → IsPlanChange net c → IsSound 1 (change_tree net c)
  change_sound c h =
      let p : PlanRule = plan_rule_of c in
      let v : Data = string (word_of c) in
      let range : IsInRange net p = record { switch = h.switch; priority = h.priority; priority_most = h.priority_most; port = h.port; vlan = h.vlan; dst = h.dst; action = h.action } in
      let in_turn : put_all (rule_in_order net p) (member (codes "do") v no_members) ≡ member (codes "do") v (rule_in_order net p) =
      put_behind v (rule_in_order net p) no_members (behind p) ∙ ap (λ (ms : Members). member (codes "do") v ms) (ordered p) in
      rw (word_is net (word_of c) p, rule_is net p) ((IsUtf8-are_ascii (codes "do") refl, word_utf8 c, members_sound p range), in_turn)

-- ---- lists, and the whole

each_sound : {X : Type 0} (n : ℕ) (tree : X → Data) (P : X → Type 0) → ((x : X) → P x → IsSound n (tree x)) → (xs : List X) → AllByRecursion P xs → AreItems n (items_of (map tree xs))
each_sound n tree P each [] hs = tt
each_sound n tree P each (x ∷ xs) hs = (each x hs.0, each_sound n tree P each xs hs.1)

pub tables_sound : (net : Network) (rules : List PlanRule) (pending : List Change) → IsNetwork net → AllByRecursion (IsInRange net) rules → AllByRecursion (IsPlanChange net) pending → IsSound 3 (tables_tree net rules pending)
tables_sound net rules pending kept hr hp = (
  (
    IsUtf8-are_ascii (codes "pending") refl,
    each_sound 1 (change_tree net) (IsPlanChange net) (change_sound net kept) pending hp,
    (IsUtf8-are_ascii (codes "rules") refl, each_sound 1 (rule_tree net) (IsInRange net) (rule_sound net kept) rules hr, tt),
  ),
  refl,
)
