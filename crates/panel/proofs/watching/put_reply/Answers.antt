-- `panel::watching::put_reply` meets its contract.
use Rattle.panel.proofs.Watchings.{reply_put}
use Rattle.panel.proofs.watching.put_reply.Goals as goal

pub returns : goal.returns
returns c = search reply_put
