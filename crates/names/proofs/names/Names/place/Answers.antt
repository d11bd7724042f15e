-- The search of all the places finds the first where the name stands, or that it stands nowhere.
use Rattle.std.proofs.Common.{◌≡◌, [], get_or, rules}
use Rattle.std.proofs.lemmas.Iterator.{first_from_Range}
use Rattle.names.specs.View.{list}
use Rattle.names.proofs.ListedProperties.{place_of_searched}
use Rattle.names.proofs.names.Names.place.Goals as goal

pub returns-clause-value : goal.returns-clause-value
returns-clause-value c =
    let names = list c.args.self.now in
    let name = c.args.name.now in
    place_of_searched names name c.len.result c.find.result c.len.ensures.value
    (first_from_Range _ _ _ _ (λ i. get_or names i [] ≡ name) (λ i. get_or names i [] ≡ name → ⊥)
    c.find.ensures.ran (λ x q k. search rules) (λ x q k. search rules))
