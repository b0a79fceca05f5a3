use Rattle.fx_table.proofs.Making.{name_sets, ascends, makes_whole, built}
use Rattle.fx_folder.proofs.building.filestore_of.Goals as goal

pub list_names-requires-clause-sets : goal.list_names-requires-clause-sets
list_names-requires-clause-sets c = name_sets c.args.found.items c.requires

pub made_of-requires-clause-ascending : goal.made_of-requires-clause-ascending
made_of-requires-clause-ascending c = ascends c.args.found.items c.requires c.list_names.new.found.items c.in_ok-list_names.ensures

pub made_of-requires-clause-whole : goal.made_of-requires-clause-whole
made_of-requires-clause-whole c = makes_whole c.args.found.items c.requires c.list_names.new.found.items c.in_ok-list_names.ensures

pub returns : goal.returns
returns c = built c.made_of.result c.args.found.items c.requires c.list_names.new.found.items c.in_ok-list_names.ensures c.made_of.ensures
