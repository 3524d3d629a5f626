use Rattle.std.proofs.Common.{ap}
use Rattle.jfr_plan.specs.Effects.{Outside, outside}
use Rattle.jfr_scrub.proofs.AgainLaws.{is_scrubbed}
use Rattle.jfr_scrub.proofs.AgreementLaws as scrubs
use Rattle.jfr_renumber.proofs.HeadlineLaws.{is_output}
use Rattle.jfr_renumber.proofs.AgreementLaws as renumbers
use Rattle.jfr_receipt.proofs.ReceiptLaws.{is_receipted}
use Rattle.jfr_cli.proofs.Clauses.{Answers, answers_by, only_parts, text_writes, usage_told, usage_only, untouched, headline_told, done_told, refused_told, halted_told, broken_told, parts_told, memory_told, memory_line_written, statuses, no_read_passed, no_write_passed, no_text_passed, one_count, complete, can_read, can_create, sink_told, text_told, place_told, same_told, doubted_told, renumbered_told, verified_told, scrubs_told, built_told, unbuilt_told, masked_told, table_told, long_told, only_masks}
use Rattle.jfr_cli.proofs.top.run.Given.{Over}
use Rattle.jfr_cli.proofs.top.run.Goals as goal

answered : (g : Over) (c : goal.After-write_answer g)
    → Answers c.args.words.now c.write_answer.result (outside (g.P.Place.state c.args.place.now) (g.O.Sink.state c.args.out.now)) (outside (g.P.Place.state c.obey-answer.new.place) (g.O.Sink.state c.obey-answer.new.out)) (g.E.Sink.state c.args.err.now) (g.E.Sink.state c.write_answer.new.err)
answered g c = answers_by c.args.words.now c.obey-answer.result c.write_answer.result _ _ _ _ c.obey-answer.ensures c.write_answer.ensures

pub returns-clause-usage : goal.returns-clause-usage
returns-clause-usage g c = usage_told (answered g c)

pub returns-clause-usage_only : goal.returns-clause-usage_only
returns-clause-usage_only g c = usage_only (answered g c)

pub returns-clause-untouched : goal.returns-clause-untouched
returns-clause-untouched g c = λ h. let e = untouched (answered g c) h in (ap (λ (z : Outside). z.place) e, ap (λ (z : Outside). z.sink) e)

pub returns-clause-headline : goal.returns-clause-headline
returns-clause-headline g c = headline_told (answered g c)

pub returns-clause-each : goal.returns-clause-each
returns-clause-each g c = λ f. is_scrubbed f

pub returns-clause-renumbered : goal.returns-clause-renumbered
returns-clause-renumbered g c = renumbered_told (answered g c)

pub returns-clause-each_renumbered : goal.returns-clause-each_renumbered
returns-clause-each_renumbered g c = λ f. is_output f

pub returns-clause-same_kept : goal.returns-clause-same_kept
returns-clause-same_kept g c = λ f. scrubs.recordings_same f

pub returns-clause-same_kept_renumbered : goal.returns-clause-same_kept_renumbered
returns-clause-same_kept_renumbered g c = λ f. renumbers.recordings_same f

pub returns-clause-each_receipt : goal.returns-clause-each_receipt
returns-clause-each_receipt g c = is_receipted c.kept_is_passed.ensures

pub returns-clause-verified : goal.returns-clause-verified
returns-clause-verified g c = verified_told (answered g c)

pub returns-clause-scrubs_verified : goal.returns-clause-scrubs_verified
returns-clause-scrubs_verified g c = scrubs_told c.verdict_is_unique.ensures.one c.scrubs_are_verified.ensures (answered g c)

pub returns-clause-doubted : goal.returns-clause-doubted
returns-clause-doubted g c = doubted_told (answered g c)

pub returns-clause-built : goal.returns-clause-built
returns-clause-built g c = built_told (answered g c)

pub returns-clause-each_built : goal.returns-clause-each_built
returns-clause-each_built g c = c.built_is_accepted.ensures

pub returns-clause-unbuilt : goal.returns-clause-unbuilt
returns-clause-unbuilt g c = unbuilt_told (answered g c)

pub returns-clause-done : goal.returns-clause-done
returns-clause-done g c = λ h. (done_told (answered g c) h).0

pub returns-clause-done_silent : goal.returns-clause-done_silent
returns-clause-done_silent g c = λ h. (done_told (answered g c) h).1

pub returns-clause-refused : goal.returns-clause-refused
returns-clause-refused g c = refused_told (answered g c)

pub returns-clause-halted : goal.returns-clause-halted
returns-clause-halted g c = λ h. (halted_told (answered g c) h).0

pub returns-clause-halted_line_written : goal.returns-clause-halted_line_written
returns-clause-halted_line_written g c = λ h. (halted_told (answered g c) h).1

pub returns-clause-broken : goal.returns-clause-broken
returns-clause-broken g c = λ h. (broken_told (answered g c) h).0

pub returns-clause-broken_line_written : goal.returns-clause-broken_line_written
returns-clause-broken_line_written g c = λ h. (broken_told (answered g c) h).1

pub returns-clause-too_many : goal.returns-clause-too_many
returns-clause-too_many g c = λ h. (parts_told (answered g c) h).0

pub returns-clause-too_many_line_written : goal.returns-clause-too_many_line_written
returns-clause-too_many_line_written g c = λ h. (parts_told (answered g c) h).1

pub returns-clause-parts : goal.returns-clause-parts
returns-clause-parts g c = only_parts (answered g c)

pub returns-clause-memory : goal.returns-clause-memory
returns-clause-memory g c = memory_told (answered g c)

pub returns-clause-memory_line_written : goal.returns-clause-memory_line_written
returns-clause-memory_line_written g c = memory_line_written (answered g c)

pub returns-clause-statuses : goal.returns-clause-statuses
returns-clause-statuses g c = statuses (answered g c)

pub returns-clause-read_fault : goal.returns-clause-read_fault
returns-clause-read_fault g c = λ h. (halted_told (answered g c) h).2

pub returns-clause-write_fault : goal.returns-clause-write_fault
returns-clause-write_fault g c = λ h. (broken_told (answered g c) h).2

pub returns-clause-no_read_passed : goal.returns-clause-no_read_passed
returns-clause-no_read_passed g c = no_read_passed (answered g c)

pub returns-clause-no_write_passed : goal.returns-clause-no_write_passed
returns-clause-no_write_passed g c = no_write_passed (answered g c)

pub returns-clause-no_text_passed : goal.returns-clause-no_text_passed
returns-clause-no_text_passed g c = no_text_passed (answered g c)

pub returns-clause-one_count : goal.returns-clause-one_count
returns-clause-one_count g c = one_count (answered g c)

pub returns-clause-writes : goal.returns-clause-writes
returns-clause-writes g c = text_writes (answered g c)

pub returns-clause-complete : goal.returns-clause-complete
returns-clause-complete g c = complete (answered g c)

pub returns-clause-can_read : goal.returns-clause-can_read
returns-clause-can_read g c = can_read (answered g c)

pub returns-clause-can_create : goal.returns-clause-can_create
returns-clause-can_create g c = can_create (answered g c)

pub returns-clause-out : goal.returns-clause-out
returns-clause-out g c = sink_told (answered g c)

pub returns-clause-check_out : goal.returns-clause-check_out
returns-clause-check_out g c = text_told (answered g c)

pub returns-clause-place : goal.returns-clause-place
returns-clause-place g c = place_told (answered g c)

pub returns-clause-same : goal.returns-clause-same
returns-clause-same g c = same_told (answered g c)

pub returns-clause-masked : goal.returns-clause-masked
returns-clause-masked g c = masked_told (answered g c)

pub returns-clause-table : goal.returns-clause-table
returns-clause-table g c = table_told (answered g c)

pub returns-clause-each_masked : goal.returns-clause-each_masked
returns-clause-each_masked g c = c.chunks_are_masked.ensures

pub returns-clause-one_dictionary : goal.returns-clause-one_dictionary
returns-clause-one_dictionary g c = c.recordings_have_one_dictionary.ensures

pub returns-clause-pseudonyms : goal.returns-clause-pseudonyms
returns-clause-pseudonyms g c = c.pseudonyms_are_distinct.ensures

pub returns-clause-secrets : goal.returns-clause-secrets
returns-clause-secrets g c = c.recordings_keep_secrets.ensures

pub returns-clause-too_long : goal.returns-clause-too_long
returns-clause-too_long g c = long_told (answered g c)

pub returns-clause-masks : goal.returns-clause-masks
returns-clause-masks g c = only_masks (answered g c)
