use Rattle.std.proofs.Common.{◌<◌, length, rules}
use Rattle.jfr_show.proofs.LeaderLaws.{layout_leader, layout_leads, layout_within}
use Rattle.jfr_show.proofs.leaders.leader_of.Goals as goal

pub offset_bounds-leaders-layout : goal.offset_bounds-leaders-layout
offset_bounds-leaders-layout c =
    let within : c.in_ok-layout.layout.class_index < length c.args.leaders.now =
    layout_within c.args.classes.now c.args.leaders.now c.requires c.args.id c.in_ok-layout.layout c.in_ok-layout.ensures in
    search (rules, within)

pub bounds-leaders-layout : goal.bounds-leaders-layout
bounds-leaders-layout c = layout_within c.args.classes.now c.args.leaders.now c.requires c.args.id c.in_ok-layout.layout c.in_ok-layout.ensures

pub returns-clause-exact : goal.returns-clause-exact
returns-clause-exact c = layout_leader c.args.classes.now c.args.leaders.now c.requires c.args.id c.in_ok-layout.layout c.in_ok-layout.ensures

pub returns-clause-within : goal.returns-clause-within
returns-clause-within c = layout_leads c.args.classes.now c.args.leaders.now c.requires c.args.id c.in_ok-layout.layout c.in_ok-layout.ensures
