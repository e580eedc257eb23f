use Rattle.std.proofs.Common.{◌≡◌, ℕ, Bool, List, ◌∷◌, ◌++◌, [], map, sym, ◌∙◌, ap, subst}
use Rattle.std.specs.Prelude.{slice_get, Some, option_map, if◌then◌else◌}
use Rattle.std.proofs.lemmas.Option.{slice_get-map}
use Rattle.net_base.proofs.MemberLaws.{map-push}
use Rattle.demands.specs.Duties.{PacketDuties, duties_of}
use Rattle.demands.specs.Sets.{duties_by}
use Rattle.demands.proofs.RowLaws.{get_still}
use Rattle.demands.proofs.SetLaws.{duties_by_set}
use Rattle.demands.proofs.stored.put_row.Goals as goal

pub returns-in_ok-push-clause-rows : goal.returns-in_ok-push-clause-rows
returns-in_ok-push-clause-rows c =
    let demands = c.args.demands.now in
    let entry = c.args.class.entry in
    let dst = c.args.class.first in
    let set : List ℕ = c.args.set.words in
    let old = c.args.sets.now in
    let by : duties_by demands set ≡ duties_of demands entry dst = duties_by_set entry dst demands set c.requires.few c.requires.set in
    let row : c.in_ok-row.row ≡ duties_by demands set = c.in_ok-row.ensures ∙ sym by in
    let sets : c.number.new.self ≡ old ++ set ∷ [] = c.in_ok-number.ensures.sets ∙ ap (λ (b : Bool). if b then old ++ set ∷ [] else old) c.if-is_new.true in
    c.in_ok-push.ensures.items ∙ ap (λ (xs : List PacketDuties). xs ++ c.in_ok-row.row ∷ []) c.requires.rows
    ∙ ap (λ (d : PacketDuties). map (duties_by demands) old ++ d ∷ []) row ∙ sym (map-push (duties_by demands) old set) ∙ ap (map (duties_by demands)) (sym sets)

pub returns-in_ok-push-clause-kept : goal.returns-in_ok-push-clause-kept
returns-in_ok-push-clause-kept c i d at =
    subst (λ (xs : List PacketDuties). slice_get xs i ≡ Some d) (sym c.in_ok-push.ensures.items) (get_still c.args.rows.now.items c.in_ok-row.row d i at)

pub returns-in_ok-push-clause-row : goal.returns-in_ok-push-clause-row
returns-in_ok-push-clause-row c =
    let demands = c.args.demands.now in
    let entry = c.args.class.entry in
    let dst = c.args.class.first in
    let set : List ℕ = c.args.set.words in
    let by : duties_by demands set ≡ duties_of demands entry dst = duties_by_set entry dst demands set c.requires.few c.requires.set in
    let number = c.in_ok-number.number in
    ap (λ (xs : List PacketDuties). slice_get xs number) (returns-in_ok-push-clause-rows c)
    ∙ slice_get-map (duties_by demands) c.number.new.self number ∙ ap (option_map (duties_by demands)) c.in_ok-number.ensures.stands
    ∙ ap (λ (d : PacketDuties). Some d) by

pub returns-else-is_new-clause-row : goal.returns-else-is_new-clause-row
returns-else-is_new-clause-row c =
    let demands = c.args.demands.now in
    let entry = c.args.class.entry in
    let dst = c.args.class.first in
    let set : List ℕ = c.args.set.words in
    let old = c.args.sets.now in
    let by : duties_by demands set ≡ duties_of demands entry dst = duties_by_set entry dst demands set c.requires.few c.requires.set in
    let number = c.in_ok-number.number in
    let sets : c.number.new.self ≡ old = c.in_ok-number.ensures.sets ∙ ap (λ (b : Bool). if b then old ++ set ∷ [] else old) c.if-is_new.false in
    let stands : slice_get old number ≡ Some set = subst (λ (xs : List (List ℕ)). slice_get xs number ≡ Some set) sets c.in_ok-number.ensures.stands in
    ap (λ (xs : List PacketDuties). slice_get xs number) c.requires.rows
    ∙ slice_get-map (duties_by demands) old number ∙ ap (option_map (duties_by demands)) stands
    ∙ ap (λ (d : PacketDuties). Some d) by
