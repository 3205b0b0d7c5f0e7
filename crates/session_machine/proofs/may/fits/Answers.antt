use Rattle.session_machine.proofs.may.fits.Goals as goal

pub returns-in-InBlock : goal.returns-in-InBlock
returns-in-InBlock c = rw c.in-InBlock.is (c.fits_block.ensures c.args.phase)

pub returns-in-Failed : goal.returns-in-Failed
returns-in-Failed c = rw c.in-Failed.is (c.fits_failed.ensures c.args.phase)
