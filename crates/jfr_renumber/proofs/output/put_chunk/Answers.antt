use Rattle.std.proofs.Common.{◌≡◌, ◌∙◌, ℕ, Global, Vec, option_map}
use Rattle.jfr_chunk.specs.Reach.{kept_by}
use Rattle.jfr_rewrite.specs.Rewrite.{rewritten}
use Rattle.jfr_rewrite.specs.Rewritten.{CarriesAll}
use Rattle.jfr_renumber.specs.Numbers.{number_or_zero}
use Rattle.jfr_renumber.specs.Renumber.{with_keys}
use Rattle.jfr_renumber.proofs.WritingLaws.{all_carried, all_renumbered, firsts_some, not_too_long}
use Rattle.jfr_renumber.proofs.output.put_chunk.Goals as goal

pub write_chunk-requires-clause-entries : goal.write_chunk-requires-clause-entries
write_chunk-requires-clause-entries c = firsts_some c.args.source.chunk.now c.args.source.kept.now c.args.source.entries.now c.requires.entries

pub unreachable-requires : goal.unreachable-requires
unreachable-requires c =
    let s = c.args.source in
    let p = s.chunk.now in
    let new = option_map (λ s. s.now) s.metadata in
    let w = with_keys (number_or_zero s.rewriting.now.keys) new in
    not_too_long c.in-Err-TooLong.field-0 (λ (out : Vec ℕ Global). out.items ≡ rewritten w p (kept_by p s.kept.now) s.entries.now)
    (CarriesAll w p (kept_by p s.kept.now) s.entries.now) c.in-Err-TooLong.field-0-is c.in-Err-TooLong.ensures
    (all_carried new p c.parts_are_valid.ensures.parts s.kept.now s.rewriting.now.keys s.entries.now c.requires.keys c.requires.entries c.requires.metadata)

pub returns-in-Ok : goal.returns-in-Ok
returns-in-Ok c =
    let s = c.args.source in
    c.in-Ok.ensures ∙ all_renumbered (option_map (λ s. s.now) s.metadata) s.chunk.now c.parts_are_valid.ensures.parts s.kept.now s.rewriting.now.keys s.entries.now c.requires.keys c.requires.entries
