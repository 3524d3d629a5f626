use Rattle.std.proofs.Common.{arith, sym, subst}
use Rattle.jfr_value.specs.Leaves.{leaf_of}
use Rattle.jfr_pool.specs.declared.entry.EntryAt.{EntryAt}
use Rattle.jfr_mask.specs.MaskedLeaves.{leaf_text}
use Rattle.jfr_mask.specs.Noted.{IsNotedFor, entry_text}
use Rattle.jfr_mask.specs.Pseudonyms.{has_text}
use Rattle.jfr_mask.proofs.NotedLaws.{leads_there, list_more, noted_leads, noted_ok}
use Rattle.jfr_mask.proofs.numbering.Numbering.add_constant.Goals as goal

pub returns-then-is_pseudonym-clause-known : goal.returns-then-is_pseudonym-clause-known
returns-then-is_pseudonym-clause-known c =
    let p = c.args.self.now.strings.chunk.now in
    let known = has_text c.args.self.now.known.now in
    let leaf = leaf_of c.args.leaf.now in
    let d = c.args.growing.now.dictionary in
    subst (IsNotedFor known d (leaf_text p leaf)) (sym c.entry-noted.ensures)
    (noted_leads p known d c.args.growing.now.noted.entries.items leaf c.args.entry c.requires.entry c.requires.noted.entries)

pub returns-then-is_pseudonym-clause-ok : goal.returns-then-is_pseudonym-clause-ok
returns-then-is_pseudonym-clause-ok c =
    let p = c.args.self.now.strings.chunk.now in
    let known = has_text c.args.self.now.known.now in
    noted_ok known c.args.growing.now.dictionary (leaf_text p (leaf_of c.args.leaf.now)) c.entry-noted.result
    (c.is_pseudonym.ensures.0 c.if-is_pseudonym.true) (returns-then-is_pseudonym-clause-known c)

pub index_mut-requires : goal.index_mut-requires
index_mut-requires c =
    let size = c.in_ok-noted.ensures.noted.entries.size in
    let leads = leads_there c.args.self.now.strings.chunk.now (leaf_of c.args.leaf.now) c.args.entry c.requires.entry in
    omega (arith, size, leads.0)

pub returns-clause-noted : goal.returns-clause-noted
returns-clause-noted c =
    let p = c.args.self.now.strings.chunk.now in
    let known = has_text c.args.self.now.known.now in
    let d = c.add_text.new.growing.dictionary in
    let leaf = leaf_of c.args.leaf.now in
    let leads = leads_there p leaf c.args.entry c.requires.entry in
    let before = c.in_ok-noted.ensures.noted in
    record {
      entries = list_more known EntryAt (entry_text p) p.entries d c.add_text.new.growing.noted.entries.items c.args.entry c.in_ok-noted.noted (omega (arith, before.entries.size, leads.0))
          (λ e there. subst (λ z. IsNotedFor known d z c.in_ok-noted.noted) (leads.1 e there) c.in_ok-noted.ensures.known) before.entries;
      strings = before.strings;
    }
