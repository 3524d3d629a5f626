use Rattle.std.proofs.Common.{◌≡◌, map, take}
use Rattle.jfr_path.specs.Strings.{is_named_allowed, over_categories, over_events}
use Rattle.jfr_path.proofs.allowed.allowed_by_strings.Given as goal

-- The classes so far are asked, and the options stay.
abbrev pub invariant-loop-class : goal.invariant-loop-class
invariant-loop-class l = record {
  names : l.names ≡ over_events l.filter l.chunk.body.strings;
  categories : l.categories ≡ over_categories l.filter l.chunk.body.strings;
  allowed : l.allowed.items ≡ map (is_named_allowed l.filter l.chunk.body.strings) (take l.class-index l.class-items);
}
