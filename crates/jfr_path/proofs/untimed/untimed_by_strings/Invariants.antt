use Rattle.std.proofs.Common.{◌≡◌, map, take}
use Rattle.jfr_filter.specs.declared.side.Side.TheVariants.{Always}
use Rattle.jfr_path.proofs.UntimedLaws.{is_always_named}
use Rattle.jfr_path.proofs.untimed.untimed_by_strings.Given as goal

-- The classes so far are asked, and the options stay.
abbrev pub invariant-loop-class : goal.invariant-loop-class
invariant-loop-class l = record {
  names : l.names ≡ record { filter = l.filter; include = Always; exclude = Always; strings = l.chunk.body.strings };
  untimed : l.untimed.items ≡ map (is_always_named l.filter l.chunk.body.strings) (take l.class-index l.class-items);
}
