use Rattle.std.proofs.Common.{arith, ap, sym, ◌∙◌, ◌∷◌, [], length}
use Rattle.std.specs.List.{flat_map}
use Rattle.jfr_base.specs.Integer.{spell}
use Rattle.jfr_chunk.specs.Written.{by_pool, group_bytes}
use Rattle.jfr_output.proofs.Widths.{size_width, size_fits}
use Rattle.jfr_scrub.specs.declared.piece.MadePart.TheVariants.{CheckpointDelta, CheckpointSize, PoolCount}
use Rattle.jfr_scrub.specs.Pieces.{output_so_far, more}
use Rattle.jfr_scrub.proofs.CheckpointLaws.{size_is, checkpoint_length, laid_checkpoint, groups_range, laid_parts}
use Rattle.jfr_scrub.proofs.CopiedLaws.{grows_then}
use Rattle.jfr_scrub.proofs.checkpoint.lay_checkpoint.Goals as goal

pub overflow_add-size-2 : goal.overflow_add-size-2
overflow_add-size-2 c =
    let s = size_is c.args.output.now.chunk c.args.link.now c.args.delta (by_pool c.args.entries.now) c.measured-pools.result.bytes c.var_len.result c.var_len-2.result c.requires.fits
    (groups_range _ _ c.requires.ranges) c.requires.small c.measured-pools.ensures.bytes c.var_len.ensures.exact
    (c.var_len-2.ensures.exact ∙ ap (λ n. length (spell n)) c.measured-pools.ensures.count) in
    let f = c.requires.fits.room in
    let g = c.requires.fits.framed.within in
    let h = c.requires.small in
    omega arith

pub put_size-requires-clause-width : goal.put_size-requires-clause-width
put_size-requires-clause-width c = size_width _ _ c.requires.fits.framed

pub put_size-requires-clause-fits : goal.put_size-requires-clause-fits
put_size-requires-clause-fits c =
    let s = size_is c.args.output.now.chunk c.args.link.now c.args.delta (by_pool c.args.entries.now) c.measured-pools.result.bytes c.var_len.result c.var_len-2.result c.requires.fits
    (groups_range _ _ c.requires.ranges) c.requires.small c.measured-pools.ensures.bytes c.var_len.ensures.exact
    (c.var_len-2.ensures.exact ∙ ap (λ n. length (spell n)) c.measured-pools.ensures.count) in
    let f = c.requires.fits.room in
    size_fits _ _ _ c.requires.fits.framed (omega arith)

pub overflow_add-link : goal.overflow_add-link
overflow_add-link c = let k = c.requires.fits.kind in let h = c.requires.small in omega arith

pub returns-clause-ok : goal.returns-clause-ok
returns-clause-ok c =
    let s = size_is c.args.output.now.chunk c.args.link.now c.args.delta (by_pool c.args.entries.now) c.measured-pools.result.bytes c.var_len.result c.var_len-2.result c.requires.fits
    (groups_range _ _ c.requires.ranges) c.requires.small c.measured-pools.ensures.bytes c.var_len.ensures.exact
    (c.var_len-2.ensures.exact ∙ ap (λ n. length (spell n)) c.measured-pools.ensures.count) in
    let count = c.measured-pools.ensures.count in
    laid_parts (output_so_far c.args.output.now) (output_so_far c.put_size.new.self) (output_so_far c.copy.new.self) (output_so_far c.put_integer.new.self) (output_so_far c.copy-2.new.self)
    (output_so_far c.put_integer-2.new.self) (output_so_far c.lay_pools.new.output)
    _ _ _ _ _ _ _ (λ z. flat_map (group_bytes z) (by_pool c.args.entries.now))
    c.in_ok-put_size.ensures.ok c.in_ok-copy.ensures.ok c.in_ok-put_integer.ensures.ok c.in_ok-copy-2.ensures.ok
    (c.in_ok-put_integer-2.ensures.ok ∙ ap (λ n. more (output_so_far c.copy-2.new.self) (spell n)) count) c.in_ok-lay_pools.ensures.ok
    ∙ laid_checkpoint (output_so_far c.args.output.now) c.args.link.now c.args.delta _ (by_pool c.args.entries.now) c.requires.fits s

pub returns-clause-size : goal.returns-clause-size
returns-clause-size c =
    size_is c.args.output.now.chunk c.args.link.now c.args.delta (by_pool c.args.entries.now) c.measured-pools.result.bytes c.var_len.result c.var_len-2.result c.requires.fits
    (groups_range _ _ c.requires.ranges) c.requires.small c.measured-pools.ensures.bytes c.var_len.ensures.exact (c.var_len-2.ensures.exact ∙ ap (λ n. length (spell n)) c.measured-pools.ensures.count)
    ∙ sym (checkpoint_length _ _ _ _ c.requires.fits)

pub returns-clause-grows : goal.returns-clause-grows
returns-clause-grows c =
    grows_then _ _ _ (CheckpointSize ∷ []) _ c.in_ok-put_size.ensures.grows
    (grows_then _ _ _ [] _ c.in_ok-copy.ensures.grows (grows_then _ _ _ (CheckpointDelta ∷ []) _ c.in_ok-put_integer.ensures.grows
    (grows_then _ _ _ [] _ c.in_ok-copy-2.ensures.grows (grows_then _ _ _ (PoolCount ∷ []) _ c.in_ok-put_integer-2.ensures.grows c.in_ok-lay_pools.ensures.grows))))
