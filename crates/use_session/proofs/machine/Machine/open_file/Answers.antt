use Rattle.use_session.proofs.Opened.{fetches_file, refuses_file}
use Rattle.use_session.proofs.machine.Machine.open_file.Goals as goal

pub returns-in-Err : goal.returns-in-Err
returns-in-Err c =
    refuses_file c.args.self.now c.requires.kept c.args.cut.now c.as_slice-text.result.now c.file_name.result.now c.first_place-place.result c.as_slice-text.ensures
    c.file_name.ensures c.first_place-place.ensures c.args.out.now.items c.in-Err.code c.in-Err.ensures.err c.refuse_at.result c.refuse_at.new.out.items
    c.refuse_at.ensures.bytes c.refuse_at.ensures.turn

pub returns-in_ok-name-in-Ok : goal.returns-in_ok-name-in-Ok
returns-in_ok-name-in-Ok c =
    fetches_file c.args.self.now c.requires.kept c.args.cut.now c.as_slice-text.result.now c.file_name.result.now c.first_place-place.result c.as_slice-text.ensures
    c.file_name.ensures c.first_place-place.ensures c.args.out.now.items c.in-Ok.name.now c.in_ok-name-in-Ok.name c.in-Ok.ensures.ok c.in_ok-name-in-Ok.ensures
