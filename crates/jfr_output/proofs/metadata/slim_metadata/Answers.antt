use Rattle.std.proofs.Common.{◌≡◌, subst, IfOk, Global, Vec}
use Rattle.std.specs.Prelude.{ℕ, List, IfSome, option_map}
use Rattle.std.specs.List.{AllByRecursion}
use Rattle.jfr_meta.specs.Slimmed.{slim_body, slim_in}
use Rattle.jfr_meta.specs.Stays.{is_in}
use Rattle.jfr_meta.specs.Written.{IsText}
use Rattle.jfr_filter.specs.Filters.{describes}
use Rattle.jfr_chunk.specs.Metas.{metadata_size, stays_in}
use Rattle.jfr_chunk.specs.Reach.{kept_by}
use Rattle.jfr_output.proofs.NewLaws.{found_record, frame_size, slim_found}
use Rattle.jfr_output.proofs.metadata.slim_metadata.Goals as goal

abbrev items : Vec ℕ Global → List ℕ
items v = v.items

pub returns-clause-exact : goal.returns-clause-exact
returns-clause-exact c =
    let names = describes c.args.filter.now in
    let p = c.args.chunk.now in
    let kept = kept_by p c.args.kept.now in
    let b = c.metadata.ensures.body in
    let s : is_in c.in_ok-remaining.remaining ≡ stays_in names p kept = λ i id. c.in_ok-remaining.ensures.exact id i in
    let z = frame_size p c.parts_are_valid.ensures.parts c.metadata_frame.result c.metadata_frame.ensures in
    slim_found items names p kept (metadata_size p) c.slim.result
    (subst (λ w. IfOk c.slim.result (λ found. option_map items found ≡ w)) (λ i. slim_in (b i) (s i) (z i)) c.slim.ensures.exact)
    (subst (λ w. IfOk c.slim.result (λ found. IfSome found (λ v. AllByRecursion IsText w))) (λ i. (slim_body (b i) (s i)).strings) c.slim.ensures.texts)

pub returns-clause-metadata : goal.returns-clause-metadata
returns-clause-metadata c = found_record items (describes c.args.filter.now) c.args.chunk.now (kept_by c.args.chunk.now c.args.kept.now) (metadata_size c.args.chunk.now) c.slim.result
    (returns-clause-exact c)
