-- Packets of the classes in turn may all enter.
use Rattle.std.proofs.Common.{◌≡◌, ℕ, suc, ◌%◌, ◌^◌, ◌<◌, ◌≤◌, Bool, true, false, List, [], ◌∷◌, length, refl, sym, subst, arith}
use Rattle.std.specs.Prelude.{◌==◌, slice_get, Some, if◌then◌else◌}
use Rattle.std.specs.List.{AllByRecursion}
use Rattle.net_base.specs.Blocks.{Block}
use Rattle.topology.specs.Networks.{Network, IsEntry}
use Rattle.dest_classes.specs.Classes.{ClassList, class_count, classes_of}
use Rattle.dest_classes.proofs.EntryLaws.{class_entry, class_small}
use Rattle.schedule_pilot.specs.Ends.{AreEntries}
use Rattle.schedule_pilot.specs.declared.Entry.{Entry}
use Rattle.simulate_command.specs.Simulations.{IsEntryFor, IsTraffic}

-- the packets are of the classes in turn
abbrev pub AreInTurn : ClassList → List Entry → Type 0
AreInTurn classes entries = (i : ℕ) (entry : Entry) → slice_get entries i ≡ Some entry → IsEntryFor classes (i % class_count classes) entry

few_of : (b : Bool) (n count most : ℕ) → n ≡ (if b then 0 else count) → count ≤ most → n ≤ most
few_of true n count most is few = omega arith
few_of false n count most is few = omega arith

pub few_enter : (classes : ClassList) (count most : ℕ) (entries : List Entry) → IsTraffic classes count entries → count ≤ most → length entries ≤ most
few_enter classes count most entries traffic few = few_of (class_count classes == 0) (length entries) count most traffic.many few

all_at : {A : Type 0} (P : A → Type 0) (xs : List A) → ((i : ℕ) (x : A) → slice_get xs i ≡ Some x → P x) → AllByRecursion P xs
all_at P [] each = tt
all_at P (x ∷ xs) each = (each 0 x refl, all_at P xs (λ i y at. each (suc i) y at))

-- each of the packets may enter
pub traffic_enters : (net : Network) (blocks : List Block) (count : ℕ) (entries : List Entry) → IsTraffic (classes_of net blocks) count entries → AreEntries net entries
traffic_enters net blocks count entries traffic =
    all_at (λ (e : Entry). IsEntry net e.place × (e.dst < 2 ^ 32)) entries (λ i entry at.
    let of = traffic.each i entry at in
    subst (λ (e : Entry). IsEntry net e.place × (e.dst < 2 ^ 32)) (sym of.is)
    (class_entry net blocks (i % class_count (classes_of net blocks)) of.class of.is_class, class_small net blocks (i % class_count (classes_of net blocks)) of.class of.is_class))
