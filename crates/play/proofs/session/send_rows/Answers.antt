use Rattle.std.proofs.Common.{◌≡◌, ◌∙◌, List, ◌∷◌, ◌++◌, [], ap, sym, subst, refl, length}
use Rattle.catalogue.specs.declared.checked.ColumnDesc.{ColumnDesc}
use Rattle.pg_messages.specs.declared.server.ServerMessage.{ServerMessage}
use Rattle.pg_messages.specs.declared.server.ServerMessage.TheVariants.{RowDescription, Complete}
use Rattle.pg_messages.specs.Server.{Fits}
use Rattle.play.specs.Replies.{Sent, fields_of, tag_of}
use Rattle.play.proofs.SendingLemmas.{sent_then, sent_on}
use Rattle.play.proofs.RowLemmas.{RowsSent, columns_fit, is_at, row_in_range, row_is_countable, row_is_small, rows_all, rows_more, rows_none}
use Rattle.backend_trait.specs.Typed.{has_columns}
use Rattle.play.proofs.session.send_rows.Goals as goal

pub send-requires : goal.send-requires
send-requires c = subst Fits (sym (c.in_ok-description.ensures ∙ ap (λ (columns : List ColumnDesc). RowDescription (fields_of columns)) c.as_slice.ensures)) (columns_fit c.args.statement.now.columns c.requires.named)

pub send-requires-2 : goal.send-requires-2
send-requires-2 c = c.in_ok-tag.ensures.fits

pub row_message-requires : goal.row_message-requires
row_message-requires c =
    row_in_range c.args.statement.now.columns c.row-item.result
    (is_at (has_columns c.args.statement.now.columns) c.args.rows.now c.loop-row.row-index c.row-item.result c.requires.form c.loop-row-test.true c.row-item.is)

pub send-requires-in-loop-row : goal.send-requires-in-loop-row
send-requires-in-loop-row c =
    let columns = c.args.statement.now.columns in
    let row = c.row-item.result in
    let has : has_columns columns row ≡ _ = is_at (has_columns columns) c.args.rows.now c.loop-row.row-index row c.requires.form c.loop-row-test.true c.row-item.is in
    c.in_ok-message.ensures.fits (row_is_countable columns row has c.requires.named) (row_is_small columns row has)

pub loop-row-init : goal.loop-row-init
loop-row-init c = rows_none c.send.new.output

pub loop-row-preserved : goal.loop-row-preserved
loop-row-preserved c = rows_more c.send.new.output c.loop-row.output c.send-in-loop-row.new.output c.args.rows.now c.loop-row.row-index c.row-item.result c.in_ok-message.message c.loop-row-test.true c.row-item.is c.in_ok-message.ensures.row c.loop-row.invariant c.in_ok-send-2.ensures

pub returns : goal.returns
returns c =
    let body = c.args.statement.now.body in
    let columns = c.args.statement.now.columns in
    let Described : ServerMessage → Type 0 = λ m. Sent c.args.output.now c.send.new.output (m ∷ []) in
    let Tagged : ServerMessage → Type 0 = λ m. Sent c.loop-row.output c.send-2.new.output (m ∷ []) in
    let told : Sent c.args.output.now c.send.new.output (RowDescription (fields_of columns) ∷ []) = subst Described (c.in_ok-description.ensures ∙ ap (λ (cs : List ColumnDesc). RowDescription (fields_of cs)) c.as_slice.ensures) c.in_ok-send.ensures in
    let all : RowsSent c.args.rows.now c.send.new.output c.loop-row.output = rows_all c.send.new.output c.loop-row.output c.args.rows.now c.loop-row.row-index c.loop-row-test.false c.loop-row.invariant in
    let tag : Sent c.loop-row.output c.send-2.new.output (Complete (tag_of body (length c.args.rows.now)) ∷ []) = subst Tagged c.in_ok-tag.ensures.tag c.in_ok-send-3.ensures in (
      RowDescription (fields_of columns) ∷ (all.sent ++ Complete (tag_of body (length c.args.rows.now)) ∷ []),
      record { sent = all.sent; each = all.each; are = refl },
      sent_then told (sent_on c.send.new.output c.loop-row.output c.send-2.new.output all.sent (Complete (tag_of body (length c.args.rows.now)) ∷ []) all.bytes tag),
    )
