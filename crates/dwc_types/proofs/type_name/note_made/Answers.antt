use Rattle.dwc_types.proofs.NotedNameLaws.{if-some}
use Rattle.dwc_types.proofs.type_name.note_made.Goals as goal

pub returns-in-Some-clause-names : goal.returns-in-Some-clause-names
returns-in-Some-clause-names c source s texts e first of at here tag_is named wrappers known = c.note.ensures.names source s texts (if-some _ c.args.but c.in-Some.but c.in-Some.is wrappers) known

pub returns-in-None-clause-names : goal.returns-in-None-clause-names
returns-in-None-clause-names c source s texts e first of at here tag_is named wrappers known = c.note_own_ring.ensures.names source of.number s texts e of.source of.emitted here tag_is named known
