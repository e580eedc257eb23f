-- Actions that have one of the written forms are those of the action which they name, and the actions of an action name it.
use Rattle.std.proofs.Common.{◌≡◌, ◌⊎◌, ℕ, zero, suc, ◌+◌, ◌*◌, ◌<◌, ◌≤◌, Bool, true, false, cond, List, [], ◌∷◌, ◌++◌, length, refl, sym, ap, subst, ◌∙◌, inl, inr, arith}
use Rattle.std.specs.Prelude.{◌==◌, ◌||◌, Option, Some, None, option_and_then}
use Rattle.std.specs.Option.{option_map}
use Rattle.std.proofs.lemmas.Bool.{eqb-true, and_parts, or_cases}
use Rattle.net_base.specs.declared.ids.Port.{Port}
use Rattle.topology.specs.Networks.{IsPortNumber, IsVlanId, is_vlan_id}
use Rattle.update_model.specs.Ranges.{IsPlanAction, IsPlanRewrite}
use Rattle.flow_rules.specs.declared.rules.Rewrite.{Rewrite}
use Rattle.flow_rules.specs.declared.rules.Rewrite.TheVariants.{Keep, Set, Strip}
use Rattle.flow_rules.specs.declared.rules.Action.{Action}
use Rattle.flow_rules.specs.declared.rules.Action.TheVariants.{Discard, Out}
use Rattle.openflow10.specs.Layout.{Row, Spans, Holds}
use Rattle.openflow10.specs.FlowMod.{command_of}
use Rattle.openflow10.specs.Actions.{action_table, actions_table, action_at, actions_at, output, set_vlan_vid, strip_vlan, rewrite_actions, actions_of, verb_actions, is_port, is_output, is_set_vlan_vid, is_strip_vlan, output_in, rewrite_in, action_in, verb_in}
use Rattle.openflow10.specs.Messages.{IsVerb}
use Rattle.openflow10.specs.declared.ofp_action.ActionFields.{ActionFields}
use Rattle.openflow10.specs.declared.Verb.{Verb}
use Rattle.openflow10.specs.declared.Verb.TheVariants.{Add, Modify, Remove}
use Rattle.openflow10.proofs.TableLaws.{Fit}
use Rattle.openflow10.proofs.MatchLaws.{is_port-true, is_port-from, is_vlan_id-true, is_vlan_id-from}

same_action : (a b : ActionFields) → a.kind ≡ b.kind → a.len ≡ b.len → a.argument ≡ b.argument → a.rest ≡ b.rest → a ≡ b
same_action a b e1 e2 e3 e4 = λ i. record { kind = e1 i; len = e2 i; argument = e3 i; rest = e4 i }

abbrev pub done : {X : Type 0} → X → Option X
done x = Some x

pub some_is : {X : Type 0} (x y : X) → done x ≡ done y → x ≡ y
some_is x y e = cc

chosen_some : {X : Type 0} (b : Bool) (x y : X) → cond b (Some x) None ≡ Some y → (b ≡ true) × (x ≡ y)
chosen_some true x y e = (refl, some_is x y e)
chosen_some false x y e = absurd cc

mapped_some : {X Y : Type 0} (f : X → Y) (o : Option X) (y : Y) → option_map f o ≡ Some y → (x : X) × ((o ≡ Some x) × (f x ≡ y))
mapped_some f None y e = absurd cc
mapped_some f (Some x) y e = (x, (refl, some_is (f x) y e))

then_some : {X Y : Type 0} (f : X → Option Y) (o : Option X) (y : Y) → option_and_then f o ≡ Some y → (x : X) × ((o ≡ Some x) × (f x ≡ Some y))
then_some f None y e = absurd cc
then_some f (Some x) y e = (x, (refl, e))

-- ---- one action

is_output-true : (a : ActionFields) → is_output a ≡ true → (a ≡ output (record { 0 = a.argument })) × IsPortNumber a.argument
unfolding is_output
is_output-true a e =
    let (x, rest) = and_parts _ (a.rest == 0) e in
    let (y, port) = and_parts _ (is_port a.argument) x in
    let (kind, len) = and_parts (a.kind == 0) (a.len == 8) y in
    (same_action a (output (record { 0 = a.argument })) (eqb-true a.kind 0 kind) (eqb-true a.len 8 len) refl (eqb-true a.rest 0 rest), is_port-true a.argument port)

is_set_vlan_vid-true : (a : ActionFields) → is_set_vlan_vid a ≡ true → (a ≡ set_vlan_vid a.argument) × IsVlanId a.argument
unfolding is_set_vlan_vid
is_set_vlan_vid-true a e =
    let (x, rest) = and_parts _ (a.rest == 0) e in
    let (y, id) = and_parts _ (is_vlan_id a.argument) x in
    let (kind, len) = and_parts (a.kind == 1) (a.len == 8) y in
    (same_action a (set_vlan_vid a.argument) (eqb-true a.kind 1 kind) (eqb-true a.len 8 len) refl (eqb-true a.rest 0 rest), is_vlan_id-true a.argument id)

is_strip_vlan-true : (a : ActionFields) → is_strip_vlan a ≡ true → a ≡ strip_vlan
unfolding is_strip_vlan
is_strip_vlan-true a e =
    let (x, rest) = and_parts _ (a.rest == 0) e in
    let (y, argument) = and_parts _ (a.argument == 0) x in
    let (kind, len) = and_parts (a.kind == 3) (a.len == 8) y in
    same_action a strip_vlan (eqb-true a.kind 3 kind) (eqb-true a.len 8 len) (eqb-true a.argument 0 argument) (eqb-true a.rest 0 rest)

is_output-output : (port : Port) → IsPortNumber port.0 → is_output (output port) ≡ true
unfolding is_output
is_output-output port h = let e = is_port-from port.0 h in rw e refl

is_set_vlan_vid-set : (id : ℕ) → IsVlanId id → is_set_vlan_vid (set_vlan_vid id) ≡ true
unfolding is_set_vlan_vid
is_set_vlan_vid-set id h = let e = is_vlan_id-from id h in rw e refl

is_set_vlan_vid-strip : is_set_vlan_vid strip_vlan ≡ false
unfolding is_set_vlan_vid
is_set_vlan_vid-strip = refl

is_strip_vlan-strip : is_strip_vlan strip_vlan ≡ true
unfolding is_strip_vlan
is_strip_vlan-strip = refl

output_in-some : (a : ActionFields) (port : Port) → output_in a ≡ Some port → (a ≡ output port) × IsPortNumber port.0
output_in-some a port e =
    let (form_is, same) = chosen_some (is_output a) (record { 0 = a.argument }) port e in
    let (form, range) = is_output-true a form_is in
    (form ∙ ap output same, subst (λ (p : Port). IsPortNumber p.0) same range)

rewrite-cond : (s t : Bool) (id : ℕ) (r : Rewrite) → cond s (Some (Set id)) (cond t (Some Strip) None) ≡ Some r → ((s ≡ true) × (Set id ≡ r)) ⊎ ((t ≡ true) × (Strip ≡ r))
rewrite-cond true t id r e = inl (refl, some_is (Set id) r e)
rewrite-cond false true id r e = inr (refl, some_is Strip r e)
rewrite-cond false false id r e = absurd cc

rewrite_in-some : (a : ActionFields) (r : Rewrite) → rewrite_in a ≡ Some r → (rewrite_actions r ≡ a ∷ []) × IsPlanRewrite r
rewrite_in-some a r e = elim (rewrite-cond (is_set_vlan_vid a) (is_strip_vlan a) a.argument r e) [
  | inl s ↦
      let (form, range) = is_set_vlan_vid-true a s.0 in
      subst (λ (x : Rewrite). (rewrite_actions x ≡ a ∷ []) × IsPlanRewrite x) s.1 (ap (λ (x : ActionFields). x ∷ []) (sym form), range)
  | inr t ↦
      let form = is_strip_vlan-true a t.0 in
      subst (λ (x : Rewrite). (rewrite_actions x ≡ a ∷ []) × IsPlanRewrite x) t.1 (ap (λ (x : ActionFields). x ∷ []) (sym form), tt)
]

-- ---- the actions of an entry

abbrev Names : List ActionFields → Action → Type 0
Names actions x = (actions_of x ≡ actions) × IsPlanAction x

action_in-some : (actions : List ActionFields) (x : Action) → action_in actions ≡ Some x → Names actions x
action_in-some [] x e = subst (Names []) (some_is Discard x e) (refl, tt)
action_in-some (a ∷ []) x e =
    let m = mapped_some (λ port. Out port Keep) (output_in a) x e in
    let (form, range) = output_in-some a m.0 m.1.0 in
    subst (Names (a ∷ [])) m.1.1 (ap (λ (o : ActionFields). o ∷ []) (sym form), (range, tt))
action_in-some (a ∷ b ∷ []) x e =
    let t = then_some (λ rewrite. option_map (λ port. Out port rewrite) (output_in b)) (rewrite_in a) x e in
    let m = mapped_some (λ port. Out port t.0) (output_in b) x t.1.1 in
    let (before, id) = rewrite_in-some a t.0 t.1.0 in
    let (form, range) = output_in-some b m.0 m.1.0 in
    subst (Names (a ∷ b ∷ [])) m.1.1 (ap (λ (l : List ActionFields). l ++ output m.0 ∷ []) before ∙ ap (λ (o : ActionFields). a ∷ o ∷ []) (sym form), (range, id))
action_in-some (a ∷ b ∷ d ∷ actions) x e = absurd cc

action_in-again : (x : Action) → IsPlanAction x → action_in (actions_of x) ≡ Some x
action_in-again Discard h = refl
action_in-again (Out port Keep) h = let o = is_output-output port h.0 in rw o refl
action_in-again (Out port (Set id)) h =
    let o = is_output-output port h.0 in
    let s = is_set_vlan_vid-set id h.1 in
    rw (s, o) refl
action_in-again (Out port Strip) h =
    let o = is_output-output port h.0 in
    rw (is_set_vlan_vid-strip, is_strip_vlan-strip, o) refl

-- ---- the actions of a command

verb-cond : (four none adds : Bool) (o : Option Action) (v : Verb) → cond four (cond none (Some Remove) None) (option_map (λ x. cond adds (Add x) (Modify x)) o) ≡ Some v
    → ((four ≡ true) × ((none ≡ true) × (Remove ≡ v))) ⊎ ((four ≡ false) × ((x : Action) × ((o ≡ Some x) × (cond adds (Add x) (Modify x) ≡ v))))
verb-cond true true adds o v e = inl (refl, (refl, some_is Remove v e))
verb-cond true false adds o v e = absurd cc
verb-cond false none adds o v e = inr (refl, mapped_some (λ x. cond adds (Add x) (Modify x)) o v e)

pub record NamesVerb (command : ℕ) (actions : List ActionFields) (v : Verb) : Type 0 where
  pub by_command : command_of v ≡ command
  pub by_actions : verb_actions v ≡ actions
  pub in_range : IsVerb v

no_actions : (actions : List ActionFields) → length actions ≡ 0 → [] ≡ actions
no_actions [] e = refl
no_actions (a ∷ actions) e = absurd (omega arith)

named_by : (command : ℕ) (actions : List ActionFields) (x : Action) (adds : Bool) → (adds ≡ true → command ≡ 0) → (adds ≡ false → command ≡ 2)
    → Names actions x → NamesVerb command actions (cond adds (Add x) (Modify x))
named_by command actions x true add modify h = record { by_command = sym (add refl); by_actions = h.0; in_range = h.1 }
named_by command actions x false add modify h = record { by_command = sym (modify refl); by_actions = h.0; in_range = h.1 }

pub verb_in-some : (command : ℕ) (actions : List ActionFields) (v : Verb) → (((command == 0) || (command == 2)) || (command == 4)) ≡ true
    → verb_in command actions ≡ Some v → NamesVerb command actions v
verb_in-some command actions v known e = elim (verb-cond (command == 4) (length actions == 0) (command == 0) (action_in actions) v e) [
  | inl d ↦
      let none = no_actions actions (eqb-true (length actions) 0 d.1.0) in
      subst (NamesVerb command actions) d.1.1 (record { by_command = sym (eqb-true command 4 d.0); by_actions = none; in_range = tt })
  | inr d ↦
      let modify : (command == 0) ≡ false → command ≡ 2 = λ zero. elim (or_cases ((command == 0) || (command == 2)) (command == 4) known) [
        | inl front ↦ elim (or_cases (command == 0) (command == 2) front) [ inl z ↦ absurd cc | inr two ↦ eqb-true command 2 two ]
        | inr four ↦ absurd cc
      ] in
      let named = named_by command actions d.1.0 (command == 0) (eqb-true command 0) modify (action_in-some actions d.1.0 d.1.1.0) in
      subst (NamesVerb command actions) d.1.1.1 named
]

pub verb_in-again : (v : Verb) → IsVerb v → verb_in (command_of v) (verb_actions v) ≡ Some v
verb_in-again (Add x) h = let e = action_in-again x h in rw e refl
verb_in-again (Modify x) h = let e = action_in-again x h in rw e refl
verb_in-again Remove h = refl

-- ---- the actions in the bytes

pub actions_table-spans : (actions : List ActionFields) (at : ℕ) → Spans at (actions_table at actions) (at + 8 * length actions)
actions_table-spans [] at = omega arith
actions_table-spans (a ∷ actions) at =
    let rest = actions_table-spans actions (at + 8) in
    let first : at + 2 + 2 + 2 + 2 ≡ at + 8 = omega arith in
    let end : at + 8 + 8 * length actions ≡ at + 8 * suc (length actions) = omega arith in
    (refl, (refl, (omega arith, (omega arith, subst (λ (n : ℕ). Spans n (actions_table (at + 8) actions) (at + 8 * suc (length actions))) (sym first) (subst (Spans (at + 8) (actions_table (at + 8) actions)) end rest)))))

pub length-actions_at : (n at : ℕ) (bytes : List ℕ) → length (actions_at n at bytes) ≡ n
length-actions_at zero at bytes = refl
length-actions_at (suc n) at bytes = let e = length-actions_at n (at + 8) bytes in omega arith

pub actions_at-holds : (n at : ℕ) (bytes : List ℕ) → Holds bytes (actions_table at (actions_at n at bytes))
actions_at-holds zero at bytes = tt
actions_at-holds (suc n) at bytes = (refl, (refl, (refl, (refl, actions_at-holds n (at + 8) bytes))))

pub actions_at-held : (actions : List ActionFields) (at : ℕ) (bytes : List ℕ) → Holds bytes (actions_table at actions) → actions_at (length actions) at bytes ≡ actions
actions_at-held [] at bytes h = refl
actions_at-held (a ∷ actions) at bytes h =
    let (kind, (len, (argument, (rest, others)))) = h in
    let front : action_at at bytes ≡ a = same_action (action_at at bytes) a kind len argument rest in
    let later = actions_at-held actions (at + 8) bytes others in
    rw (front, later) refl

-- every number of an action has room in two bytes
pub record AreSmall (a : ActionFields) : Type 0 where
  pub kind : a.kind < 65536
  pub len : a.len < 65536
  pub argument : a.argument < 65536
  pub rest : a.rest < 65536

action_table-fit : (a : ActionFields) (at : ℕ) (rows : List Row) → AreSmall a → Fit rows → Fit (action_table at a ++ rows)
action_table-fit a at rows h k = (h.kind, (h.len, (h.argument, (h.rest, k))))

output-small : (port : Port) → IsPortNumber port.0 → AreSmall (output port)
output-small port h = record { kind = omega arith; len = omega arith; argument = omega (arith, h.1); rest = omega arith }

actions_of-fit : (x : Action) → IsPlanAction x → Fit (actions_table 72 (actions_of x))
actions_of-fit Discard h = tt
actions_of-fit (Out port Keep) h = action_table-fit (output port) 72 [] (output-small port h.0) tt
actions_of-fit (Out port (Set id)) h =
    let small : AreSmall (set_vlan_vid id) = record { kind = omega arith; len = omega arith; argument = omega (arith, h.1.1); rest = omega arith } in
    action_table-fit (set_vlan_vid id) 72 (action_table 80 (output port)) small (action_table-fit (output port) 80 [] (output-small port h.0) tt)
actions_of-fit (Out port Strip) h =
    let small : AreSmall strip_vlan = record { kind = omega arith; len = omega arith; argument = omega arith; rest = omega arith } in
    action_table-fit strip_vlan 72 (action_table 80 (output port)) small (action_table-fit (output port) 80 [] (output-small port h.0) tt)

pub verb_actions-fit : (v : Verb) → IsVerb v → Fit (actions_table 72 (verb_actions v))
verb_actions-fit (Add x) h = actions_of-fit x h
verb_actions-fit (Modify x) h = actions_of-fit x h
verb_actions-fit Remove h = tt

few_of : (x : Action) → length (actions_of x) ≤ 2
few_of Discard = omega arith
few_of (Out port Keep) = omega arith
few_of (Out port (Set id)) = omega arith
few_of (Out port Strip) = omega arith

pub few_actions : (v : Verb) → length (verb_actions v) ≤ 2
few_actions (Add x) = few_of x
few_actions (Modify x) = few_of x
few_actions Remove = omega arith
