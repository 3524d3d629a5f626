use Rattle.std.proofs.Common.{◌≡◌, ◌++◌, take}
use Rattle.std.specs.List.{flat_map, AllByRecursion}
use Rattle.jfr_meta.specs.Written.{IsText, text_bytes}
use Rattle.jfr_meta.proofs.write.push_texts.Given as goal

abbrev pub invariant-loop-text : goal.invariant-loop-text
invariant-loop-text l = record {
  written : l.out.items ≡ l.initial.out.items ++ flat_map text_bytes (take l.text-index l.text-items);
  texts : AllByRecursion IsText (take l.text-index l.text-items);
}
