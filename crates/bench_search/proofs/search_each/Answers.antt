use Rattle.std.proofs.Common.{rules, arith}
use Rattle.fields.proofs.Storing.{map_next}
use Rattle.bench_search.proofs.EachCalls.{each-start, each-fits, each-word, each-end}
use Rattle.bench_search.proofs.search_each.Goals as goal

pub loop-i-init : goal.loop-i-init
loop-i-init c = search (rules, each-start)

pub overflow_mul-out : goal.overflow_mul-out
overflow_mul-out c = omega (arith, each-fits _ c.args.rows.now c.args.out.now _ _ c.search-place.ensures c.args.list.accepted)

pub overflow_add-out : goal.overflow_add-out
overflow_add-out c = search (rules, each-fits, c.search-place.ensures, c.args.list.accepted)

pub loop-i-preserved : goal.loop-i-preserved
loop-i-preserved c = search (rules, map_next, each-word, c.search-place.ensures)

pub returns : goal.returns
returns c = search (rules, each-end)
