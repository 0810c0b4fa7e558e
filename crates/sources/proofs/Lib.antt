mod Turns
mod Scans
mod Shown
mod Rising
mod Offered
