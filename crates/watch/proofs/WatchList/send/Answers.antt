-- `watch::WatchList::send` meets its contract.
use Rattle.watch.proofs.Sent.{none_sent, one_sent, send_said_lem}
use Rattle.watch.proofs.WatchList.send.Goals as goal

pub returns-in_err-i : goal.returns-in_err-i
returns-in_err-i c =
    let both = none_sent _ _ c.in_err-i.ensures _ c.from_residual.ensures in
    record { sent = both; result_value = send_said_lem _ _ _ both.0 }

pub returns : goal.returns
returns c =
    let both = one_sent _ _ _ c.in_ok-i.ensures _ c.address_at-address.ensures _ c.at.ensures _ c.keep.ensures in
    record { sent = both; result_value = send_said_lem _ _ _ both.0 }
