-- Tables behind a configuration, and packets that one event changes.
use Rattle.std.proofs.Common.{◌≡◌, ◌↔◌, ℕ, zero, suc, List, [], ◌∷◌, set, get_or, refl, sym, ◌∙◌, ap, subst, Vec, Global, ◌++◌, arith, length, map}
use Rattle.std.specs.Prelude.{slice_get, Some, None, Result, Ok, Err, IfOk, OnErr}
use Rattle.std.specs.Option.{option_map_or}
use Rattle.flow_rules.specs.Tables.{TableState, rules_of_all}
use Rattle.flow_rules.specs.declared.rules.Rule.{Rule}
use Rattle.update_model.specs.States.{State, MayStart, with_packet}
use Rattle.update_model.specs.Changes.{with_change}
use Rattle.update_model.specs.Worlds.{StartsFrom}
use Rattle.update_model.specs.declared.Change.{Change}
use Rattle.update_model.specs.declared.Phase.{Phase}
use Rattle.update_model.specs.declared.Phase.TheVariants.{Settled, Running}
use Rattle.update_model.specs.declared.Packet.{Packet}

pub rules_keep : (tables : List TableState) (s : ℕ) (t new : TableState) → slice_get tables s ≡ Some t → new.rules ≡ t.rules → rules_of_all (set tables s new) ≡ rules_of_all tables
rules_keep [] s t new e same = refl
rules_keep (x ∷ tables) zero t new e same = let f : Some x ≡ Some t = e in let g : x ≡ t = cc in ap (λ (r : List Rule). r ∷ rules_of_all tables) (same ∙ ap (λ (u : TableState). u.rules) (sym g))
rules_keep (x ∷ tables) (suc s) t new e same = ap (λ l. x.rules ∷ l) (rules_keep tables s t new e same)

pub ok_map : {T E : Type 0} (r : Result T E) (P Q : T → Type 0) → ((x : T) → P x → Q x) → IfOk r P → IfOk r Q
ok_map (Ok x) P Q f h = f x h
ok_map (Err e) P Q f h = tt

pub err_map : {T E : Type 0} (r : Result T E) (P Q : Type 0) → (P → Q) → OnErr r P → OnErr r Q
err_map (Ok x) P Q f h = tt
err_map (Err e) P Q f h = f h

start_to : (rounds : List (List Change)) (state : State) (phase : Phase) → state.phase ≡ phase → StartsFrom phase rounds state.packets → MayStart rounds state
start_to rounds state (Settled k) is h = record { k = k; settled = is; more = h.0; none_older = h.1 }
start_to rounds state (Running k) is h = absurd h

pub starts_from : (rounds : List (List Change)) (state : State) → StartsFrom state.phase rounds state.packets ↔ MayStart rounds state
starts_from rounds state = (start_to rounds state state.phase refl, λ m. subst (λ p. StartsFrom p rounds state.packets) (sym m.settled) (m.more, m.none_older))

pub both_ways_on : (P Q R : Type 0) → P ↔ Q → Q ↔ R → P ↔ R
both_ways_on P Q R f g = (λ p. g.0 (f.0 p), λ r. f.1 (g.1 r))

-- rounds whose last one has one more change
pub last_changed : (list : List (Vec Change Global)) (i : ℕ) (v d : Vec Change Global) (c : Change) → suc i ≡ length list → v.items ≡ (get_or list i d).items ++ c ∷ []
    → map (λ r. r.items) (set list i v) ≡ with_change c (map (λ r. r.items) list)
last_changed [] i v d c e is = absurd (omega arith)
last_changed (x ∷ []) zero v d c e is = ap (λ l. l ∷ []) is
last_changed (x ∷ []) (suc i) v d c e is = absurd (omega arith)
last_changed (x ∷ y ∷ list) zero v d c e is = absurd (omega arith)
last_changed (x ∷ y ∷ list) (suc i) v d c e is = ap (λ l. x.items ∷ l) (last_changed (y ∷ list) i v d c (omega arith) is)

pub same_changed : (list : List (Vec Change Global)) (i : ℕ) (v d : Vec Change Global) → suc i ≡ length list → v.items ≡ (get_or list i d).items
    → map (λ r. r.items) (set list i v) ≡ map (λ r. r.items) list
same_changed [] i v d e is = absurd (omega arith)
same_changed (x ∷ list) zero v d e is = ap (λ l. l ∷ map (λ r. r.items) list) is
same_changed (x ∷ []) (suc i) v d e is = absurd (omega arith)
same_changed (x ∷ y ∷ list) (suc i) v d e is = ap (λ l. x.items ∷ l) (same_changed (y ∷ list) i v d (omega arith) is)

pub length_items : (list : List (Vec Change Global)) → length (map (λ r. r.items) list) ≡ length list
length_items [] = refl
length_items (x ∷ list) = ap suc (length_items list)

pub on_err : {T E : Type 0} (r : Result T E) (P : Type 0) → P → OnErr r P
on_err (Ok x) P h = tt
on_err (Err e) P h = h
