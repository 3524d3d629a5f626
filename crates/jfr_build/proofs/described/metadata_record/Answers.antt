use Rattle.std.proofs.Common.{◌≤◌, subst, sym, ◌∙◌}
use Rattle.std.specs.Prelude.{option_map}
use Rattle.jfr_meta.specs.Stays.{is_in}
use Rattle.jfr_meta.specs.Written.{depth}
use Rattle.jfr_build.proofs.DescribedLaws.{root_low, slim_same}
use Rattle.jfr_build.proofs.described.metadata_record.Goals as goal

pub slim-requires : goal.slim-requires
slim-requires c = record { depth = subst (λ z. depth z ≤ 16) (sym c.in_ok-root.ensures.tree) (root_low c.args.classes (option_map (λ r. r.now) c.args.region)) }

pub returns-clause-exact : goal.returns-clause-exact
returns-clause-exact c = c.in_ok-record.ensures.exact ∙ slim_same c.args.classes (option_map (λ r. r.now) c.args.region) c.root_of.new.strings c.in_ok-root.root
    (is_in c.in_ok-ids.ids) c.in_ok-root.ensures.strings c.in_ok-root.ensures.tree c.in_ok-ids.ensures.ok
