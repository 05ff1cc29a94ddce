use Rattle.std.proofs.Common.{ap}
use Rattle.run_list.specs.declared.place.Place.{Place}
use Rattle.run_list.proofs.list.RunList.contains.Goals as goal

pub returns : goal.returns
returns c = ap (λ (p : Place). p.listed) c.search.ensures
