use Rattle.std.proofs.Common.{refl, sym, ◌∙◌}
use Rattle.std.proofs.lemmas.Result.{err_from_is_err_and}
use Rattle.jfr_chunk.proofs.Reading.{named, told, told_of, parts_told, records_refused, metadata_refused, metadata_record, checkpoint_refused, checkpoint_starts, chain_refused, body_refused, entries_refused, entries_within, events_refused, indexed}
use Rattle.jfr_chunk.proofs.chunk.Chunk.read_in.Goals as goal

pub returns-in_err-frames-clause-exact : goal.returns-in_err-frames-clause-exact
returns-in_err-frames-clause-exact c =
    let p = err_from_is_err_and c.from_residual.result c.from_residual.ensures.1 in
    rw (p.1, p.2) (told _ c.in_err-frames.field-0.0 c.requires.long (records_refused _ c.in_err-frames.field-0.0 c.in_err-frames.ensures.refused))

pub returns-in_err-metadata_frame-clause-refused : goal.returns-in_err-metadata_frame-clause-refused
returns-in_err-metadata_frame-clause-refused c =
    let p = err_from_is_err_and c.from_residual-in_err-metadata_frame.result c.from_residual-in_err-metadata_frame.ensures.1 in
    rw (p.1, p.2) (metadata_refused _ _ _ _ c.header_in-header.ensures c.in_ok-frames.ensures.ok (sym c.in_err-metadata_frame.was ∙ c.record_named.ensures))

pub returns-in_err-metadata_frame-clause-exact : goal.returns-in_err-metadata_frame-clause-exact
returns-in_err-metadata_frame-clause-exact c = told_of _ _ _ c.requires.long c.from_residual-in_err-metadata_frame.ensures.0 (returns-in_err-metadata_frame-clause-refused c)

pub returns-in_err-record_named-clause-refused : goal.returns-in_err-record_named-clause-refused
returns-in_err-record_named-clause-refused c =
    let p = err_from_is_err_and c.from_residual-in_err-record_named.result c.from_residual-in_err-record_named.ensures.1 in
    rw (p.1, p.2) (checkpoint_refused _ _ _ _ (named _ _ _ _ c.header_in-header.ensures c.in_ok-frames.ensures.ok (sym c.in_ok-metadata_frame.was ∙ c.record_named.ensures)) _
    (sym c.in_err-record_named.was ∙ c.record_named-2.ensures))

pub returns-in_err-record_named-clause-exact : goal.returns-in_err-record_named-clause-exact
returns-in_err-record_named-clause-exact c = told_of _ _ _ c.requires.long c.from_residual-in_err-record_named.ensures.0 (returns-in_err-record_named-clause-refused c)

pub read-requires-clause-last : goal.read-requires-clause-last
read-requires-clause-last c = checkpoint_starts _ _ _ _ (named _ _ _ _ c.header_in-header.ensures c.in_ok-frames.ensures.ok (sym c.in_ok-metadata_frame.was ∙ c.record_named.ensures)) _
    (sym c.in_ok-record_named.was ∙ c.record_named-2.ensures)

pub returns-in_err-chain-clause-refused : goal.returns-in_err-chain-clause-refused
returns-in_err-chain-clause-refused c =
    let p = err_from_is_err_and c.from_residual-in_err-chain.result c.from_residual-in_err-chain.ensures.1 in
    rw (p.1, p.2) (chain_refused _ _ _ _ (named _ _ _ _ c.header_in-header.ensures c.in_ok-frames.ensures.ok (sym c.in_ok-metadata_frame.was ∙ c.record_named.ensures)) _
    (sym c.in_ok-record_named.was ∙ c.record_named-2.ensures) c.in_err-chain.field-0.0 c.in_err-chain.ensures.refused)

pub returns-in_err-chain-clause-exact : goal.returns-in_err-chain-clause-exact
returns-in_err-chain-clause-exact c = told_of _ _ _ c.requires.long c.from_residual-in_err-chain.ensures.0 (returns-in_err-chain-clause-refused c)

pub read_metadata-requires : goal.read_metadata-requires
read_metadata-requires c = metadata_record _ _ _ _ (named _ _ _ _ c.header_in-header.ensures c.in_ok-frames.ensures.ok (sym c.in_ok-metadata_frame.was ∙ c.record_named.ensures))

pub returns-in_err-metadata-clause-refused : goal.returns-in_err-metadata-clause-refused
returns-in_err-metadata-clause-refused c =
    let p = err_from_is_err_and c.from_residual-in_err-metadata.result c.from_residual-in_err-metadata.ensures.1 in
    rw (p.1, p.2) (body_refused _ _ _ _ (named _ _ _ _ c.header_in-header.ensures c.in_ok-frames.ensures.ok (sym c.in_ok-metadata_frame.was ∙ c.record_named.ensures)) _
    (sym c.in_ok-record_named.was ∙ c.record_named-2.ensures) c.in_ok-chain.chain c.in_ok-chain.ensures.ok c.in_err-metadata.field-0.0 c.in_err-metadata.ensures.refused)

pub returns-in_err-metadata-clause-exact : goal.returns-in_err-metadata-clause-exact
returns-in_err-metadata-clause-exact c = told_of _ _ _ c.requires.long c.from_residual-in_err-metadata.ensures.0 (returns-in_err-metadata-clause-refused c)

pub returns-in_err-pools-clause-refused : goal.returns-in_err-pools-clause-refused
returns-in_err-pools-clause-refused c =
    let p = err_from_is_err_and c.from_residual-in_err-pools.result c.from_residual-in_err-pools.ensures.1 in
    rw (p.1, p.2) (entries_refused _ _ _ _ (named _ _ _ _ c.header_in-header.ensures c.in_ok-frames.ensures.ok (sym c.in_ok-metadata_frame.was ∙ c.record_named.ensures)) _
    (sym c.in_ok-record_named.was ∙ c.record_named-2.ensures) c.in_ok-chain.chain c.in_ok-chain.ensures.ok _ _ c.in_ok-metadata.ensures.ok c.in_err-pools.field-0.0 c.in_err-pools.ensures.exact)

pub returns-in_err-pools-clause-exact : goal.returns-in_err-pools-clause-exact
returns-in_err-pools-clause-exact c = told_of _ _ _ c.requires.long c.from_residual-in_err-pools.ensures.0 (returns-in_err-pools-clause-refused c)

pub read_events-requires-clause-entries : goal.read_events-requires-clause-entries
read_events-requires-clause-entries c = entries_within _ _ _ _ (named _ _ _ _ c.header_in-header.ensures c.in_ok-frames.ensures.ok (sym c.in_ok-metadata_frame.was ∙ c.record_named.ensures)) _
    (sym c.in_ok-record_named.was ∙ c.record_named-2.ensures) c.in_ok-chain.chain c.in_ok-chain.ensures.ok _ _ c.in_ok-metadata.ensures.ok c.in_ok-pools.pools c.in_ok-pools.ensures.ok

pub returns-in_err-events-clause-refused : goal.returns-in_err-events-clause-refused
returns-in_err-events-clause-refused c =
    let p = err_from_is_err_and c.from_residual-in_err-events.result c.from_residual-in_err-events.ensures.1 in
    rw (p.1, p.2) (events_refused _ _ _ _ (named _ _ _ _ c.header_in-header.ensures c.in_ok-frames.ensures.ok (sym c.in_ok-metadata_frame.was ∙ c.record_named.ensures)) _
    (sym c.in_ok-record_named.was ∙ c.record_named-2.ensures) c.in_ok-chain.chain c.in_ok-chain.ensures.ok _ _ c.in_ok-metadata.ensures.ok c.in_ok-pools.pools c.in_ok-pools.ensures.ok
    c.in_err-events.field-0.0 c.in_err-events.ensures.refused)

pub returns-in_err-events-clause-exact : goal.returns-in_err-events-clause-exact
returns-in_err-events-clause-exact c = told_of _ _ _ c.requires.long c.from_residual-in_err-events.ensures.0 (returns-in_err-events-clause-refused c)

pub invariant_of-result : goal.invariant_of-result
invariant_of-result c = indexed _ _ _ _ (named _ _ _ _ c.header_in-header.ensures c.in_ok-frames.ensures.ok (sym c.in_ok-metadata_frame.was ∙ c.record_named.ensures)) _
    (sym c.in_ok-record_named.was ∙ c.record_named-2.ensures) c.in_ok-chain.chain c.in_ok-chain.ensures.ok _ _ c.in_ok-metadata.ensures.ok c.in_ok-pools.pools c.in_ok-pools.ensures.ok
    c.in_ok-events.events c.requires c.in_ok-events.ensures.ok c.in_ok-events.ensures.refs_end c.in_ok-events.ensures.keys c.in_ok-events.ensures.missing c.in_ok-events.ensures.used

pub returns-clause-exact : goal.returns-clause-exact
returns-clause-exact c = parts_told _ _ c.requires.long refl
    (indexed _ _ _ _ (named _ _ _ _ c.header_in-header.ensures c.in_ok-frames.ensures.ok (sym c.in_ok-metadata_frame.was ∙ c.record_named.ensures)) _
    (sym c.in_ok-record_named.was ∙ c.record_named-2.ensures) c.in_ok-chain.chain c.in_ok-chain.ensures.ok _ _ c.in_ok-metadata.ensures.ok c.in_ok-pools.pools c.in_ok-pools.ensures.ok
    c.in_ok-events.events c.requires c.in_ok-events.ensures.ok c.in_ok-events.ensures.refs_end c.in_ok-events.ensures.keys c.in_ok-events.ensures.missing c.in_ok-events.ensures.used).parts
