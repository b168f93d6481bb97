use Rattle.std.proofs.lemmas.Result.{on_ok_weaker}
use Rattle.rnv_journal.proofs.Appends.{first_reads, both_read, both_rest, next_first, next_durable, next_second, next_writes}
use Rattle.rnv_journal.proofs.Ones.{one_then}
use Rattle.rnv_journal.proofs.append.append_line.Goals as goal

pub returns-in_err-write_synced-clause-any_moment : goal.returns-in_err-write_synced-clause-any_moment
returns-in_err-write_synced-clause-any_moment g c limit list payload next rest =
    let disk = c.args.disk.now in
    let old = g.D.Disk.past disk in
    let mid = g.D.Disk.past c.write_synced.new.disk in
    first_reads g.D.Disk.tells limit list payload old mid mid (g.D.Disk.seen disk) (λ i left. g.met.D.Disk.only_told _ _ i left) (λ t. g.met.D.Disk.reads_now disk t) rest
    (next_first limit list payload c.args.end c.args.line.now next old mid mid c.write_synced.ensures.stops)

pub returns-clause-any_moment : goal.returns-clause-any_moment
returns-clause-any_moment g c limit list payload next rest =
    let disk = c.args.disk.now in
    let old = g.D.Disk.past disk in
    let mid = g.D.Disk.past c.write_synced.new.disk in
    let new = g.D.Disk.past c.write_synced-2.new.disk in
    let seen = g.D.Disk.seen disk in
    both_read g.D.Disk.tells limit list payload old mid new seen (λ i left. g.met.D.Disk.only_told _ _ i left) (λ t. g.met.D.Disk.reads_now disk t) rest
    (next_first limit list payload c.args.end c.args.line.now next old mid new c.write_synced.ensures.stops)
    (next_durable limit list payload c.args.end c.args.line.now next old mid new seen.zero c.in_ok-write_synced.ensures.durable)
    next.within
    (next_second limit list payload c.args.end c.args.line.now next old mid new c.write_synced-2.ensures.stops)

pub returns-clause-at_rest : goal.returns-clause-at_rest
returns-clause-at_rest g c =
    let disk = c.args.disk.now in
    let old = g.D.Disk.past disk in
    let mid = g.D.Disk.past c.write_synced.new.disk in
    let new = g.D.Disk.past c.write_synced-2.new.disk in
    let seen = g.D.Disk.seen disk in
    on_ok_weaker c.write_synced-2.result (λ writes limit list payload next rest.
    both_rest g.D.Disk.tells limit list payload old mid new seen (λ i left. g.met.D.Disk.only_told _ _ i left) (λ t. g.met.D.Disk.reads_now disk t) rest
    (next_durable limit list payload c.args.end c.args.line.now next old mid new seen.zero c.in_ok-write_synced.ensures.durable)
    next.within
    (next_writes limit list payload c.args.end c.args.line.now next old mid new writes)) c.write_synced-2.ensures.kept

pub returns-clause-other : goal.returns-clause-other
returns-clause-other g c = one_then _ _ _ c.write_synced.ensures.other c.write_synced-2.ensures.other
