use Rattle.mk_reader.proofs.PrintedLemmas.{comment_dropped, comment_added}
use Rattle.mk_reader.proofs.laws.comments_change_nothing.Goals as goal

pub returns : goal.returns
returns c = λ profile file text comment number told none bare unopened. (comment_dropped profile file number text comment told none bare unopened, comment_added profile file number text comment told none bare unopened)
